use Rattle.flux_plan.proofs.ReachedPlaces.{start_placed}
use Rattle.flux_plan.proofs.locals.first.Goals as goal

pub at-requires-clause-placed : goal.at-requires-clause-placed
at-requires-clause-placed c = start_placed c.args.plan.now c.requires.verified
