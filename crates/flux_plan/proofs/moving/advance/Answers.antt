use Rattle.flux_plan.proofs.ReachedPlaces.{reached_placed}
use Rattle.flux_plan.proofs.moving.advance.Goals as goal

pub advance-requires-clause-placed : goal.advance-requires-clause-placed
advance-requires-clause-placed g c = rw c.as_plan.ensures.same (reached_placed _ c.as_plan.ensures.verified _ _ c.requires.reached)

pub returns-clause-ok : goal.returns-clause-ok
returns-clause-ok g c = rw c.as_plan.ensures.same at c.advance.ensures.ok
