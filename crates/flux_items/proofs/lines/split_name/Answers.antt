use Rattle.flux_items.proofs.NamedLines.{no_open, no_identifier}
use Rattle.flux_items.proofs.lines.split_name.Goals as goal

pub returns-in_default-clause-none : goal.returns-in_default-clause-none
returns-in_default-clause-none c =
    no_open c.args.line.now c.skip_blanks-text.result.now c.split_at.result.1.now c.skip_blanks.result.now c.word_length.result c.skip_blanks-text.ensures.rest c.word_length.ensures.value c.split_at.ensures.back c.skip_blanks.ensures.rest
    c.in_default.ensures.none

pub returns-else-is_identifier-clause-none : goal.returns-else-is_identifier-clause-none
returns-else-is_identifier-clause-none c =
    no_identifier c.args.line.now c.skip_blanks-text.result.now c.split_at.result.0.now c.word_length.result c.skip_blanks-text.ensures.rest c.word_length.ensures.value c.split_at.ensures.front
    (λ id. let so = c.if-is_identifier.ensures.1 id in absurd cc)
