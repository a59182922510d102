use Rattle.flux_verify.specs.steps.Orders.{IsGround}
use Rattle.flux_verify.proofs.orders.survey.Given as goal

abbrev pub invariant-loop : goal.invariant-loop
invariant-loop l = let known = l.search.known in IsGround l.segments known.straight known.closed known.taken
