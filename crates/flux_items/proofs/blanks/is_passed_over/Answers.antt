use Rattle.flux_items.proofs.Skipped.{over_first, over_then}
use Rattle.flux_items.proofs.blanks.is_passed_over.Goals as goal

pub returns-then-is_empty : goal.returns-then-is_empty
returns-then-is_empty c = over_first c.args.line.now c.skip_blanks-text.result.now c.is_empty.result c.skip_blanks-text.ensures.rest c.is_empty.ensures c.if-is_empty.true

pub returns-else-is_empty : goal.returns-else-is_empty
returns-else-is_empty c =
    over_then (λ b. b.now) c.args.line.now c.skip_blanks-text.result.now c.behind.result c.is_empty.result c.is_some.result
    c.skip_blanks-text.ensures.rest c.is_empty.ensures c.if-is_empty.false c.behind.ensures.found c.behind.ensures.none c.is_some.ensures
