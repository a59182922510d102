use Rattle.flux_plan.proofs.ReachedPlaces.{reached_placed, reached_rests}
use Rattle.flux_plan.proofs.moving.next.Goals as goal

pub next-requires-clause-placed : goal.next-requires-clause-placed
next-requires-clause-placed g c = rw c.as_plan.ensures.same (reached_placed _ c.as_plan.ensures.verified _ _ c.requires.reached)

pub next-requires-clause-rests : goal.next-requires-clause-rests
next-requires-clause-rests g c = rw c.as_plan.ensures.same (reached_rests _ c.as_plan.ensures.verified _ _ c.requires.reached)

pub returns : goal.returns
returns g c = rw c.as_plan.ensures.same at c.next.ensures
