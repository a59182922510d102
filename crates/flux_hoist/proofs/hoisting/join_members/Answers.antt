use Rattle.flux_hoist.proofs.Joins.{members_held}
use Rattle.flux_hoist.proofs.hoisting.join_members.Goals as goal

pub returns-in-Abstract : goal.returns-in-Abstract
returns-in-Abstract c =
    rw (c.in-Abstract.is, ← members_held c.args.table.now c.in-Abstract.cases, ← c.as_slice.ensures) c.join_cases.ensures
