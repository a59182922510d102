use Rattle.flux_plan.proofs.Framing.{take-insert}
use Rattle.flux_plan.proofs.stacks.Stack.enter.Goals as goal

pub returns-clause-frames : goal.returns-clause-frames
returns-clause-frames c = take-insert _ _ _ _ _ c.requires.most c.in_ok-insert.ensures.items c.truncate.ensures.items
