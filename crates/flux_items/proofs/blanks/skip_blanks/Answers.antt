use Rattle.std.proofs.Common.{◌∙◌, arith}
use Rattle.std.proofs.lemmas.List.{take_rest}
use Rattle.flux_items.proofs.Skipped.{dropped}
use Rattle.flux_items.proofs.blanks.skip_blanks.Goals as goal

pub returns-clause-rest : goal.returns-clause-rest
returns-clause-rest c = rw (take_rest, c.blank_length.ensures.value) (dropped c.args.text.now)
