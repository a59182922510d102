use Rattle.flux_plan.proofs.ReachedPlaces.{reached_rests}
use Rattle.flux_plan.proofs.moving.has_next.Goals as goal

pub returns : goal.returns
returns c = λ matches position reached.
    reached_rests c.args.plan.now c.as_plan.ensures.verified matches position reached
