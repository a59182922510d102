use Rattle.flux_cli.proofs.Laid.{no_begin, alone}
use Rattle.flux_cli.proofs.parts.take_part.Goals as goal

pub returns-in-None-2-clause-none : goal.returns-in-None-2-clause-none
returns-in-None-2-clause-none c = no_begin c.args.words.now c.as_bytes-word.result.now c.first-item.result c.in-len1-up.len_at_least c.first-item.is c.as_bytes-word.ensures c.in-None.ensures.none (λ is. let e = c.if-is_positional.ensures.1 is in absurd (cc))

pub returns-in-Some-default-empty-clause-none : goal.returns-in-Some-default-empty-clause-none
returns-in-Some-default-empty-clause-none c = alone c.take_value.result c.args.words.now c.as_bytes-word.result.now c.first-item.result
    c.in-Some-default-empty.field-0-1.now c.in-Some-default-empty.name c.in-len1-up.len_at_least c.first-item.is c.as_bytes-word.ensures
    c.in-Some-default-empty.ensures.found c.in-Some-default-empty.len_below c.take_value.ensures.none
