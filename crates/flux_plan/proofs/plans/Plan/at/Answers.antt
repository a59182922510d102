use Rattle.std.proofs.Common.{sym}
use Rattle.flux_plan.proofs.Placing.{stands_at, has_segment, has_instr}
use Rattle.flux_plan.proofs.plans.Plan.at.Goals as goal

pub unreachable-requires : goal.unreachable-requires
unreachable-requires c = has_segment _ c.requires.verified _ _ c.requires.placed (sym c.in_default.ensures)

pub unreachable-requires-in_default-get : goal.unreachable-requires-in_default-get
unreachable-requires-in_default-get c = has_instr _ c.requires.verified _ _ c.requires.placed _ (sym c.in-Some.ensures) (sym c.in_default-get.ensures)

pub returns : goal.returns
returns c = stands_at _ c.requires.verified _ _ c.requires.placed c.requires.sized _ _ (sym c.in-Some.ensures) (sym c.in-Some-get.ensures)
