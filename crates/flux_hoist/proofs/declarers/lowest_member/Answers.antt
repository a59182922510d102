use Rattle.flux_hoist.proofs.LowestNodes.{among_cases}
use Rattle.flux_hoist.proofs.declarers.lowest_member.Goals as goal

pub returns-in-Abstract : goal.returns-in-Abstract
returns-in-Abstract c =
    rw (c.in-Abstract.is, ← among_cases c.args.table.now c.args.first c.in-Abstract.cases, ← c.as_slice.ensures) c.lowest_in_cases.ensures
