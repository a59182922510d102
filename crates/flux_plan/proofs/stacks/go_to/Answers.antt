use Rattle.flux_plan.proofs.Framing.{set_place}
use Rattle.flux_plan.proofs.stacks.go_to.Goals as goal

pub returns : goal.returns
returns c = set_place _ _ _ c.index_mut.result.now c.index_mut.ensures.value
