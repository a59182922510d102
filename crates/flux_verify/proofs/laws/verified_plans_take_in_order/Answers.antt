use Rattle.flux_verify.proofs.holding.Ordering.{takes_in_order}
use Rattle.flux_verify.proofs.laws.verified_plans_take_in_order.Goals as goal

pub returns : goal.returns
returns c = takes_in_order
