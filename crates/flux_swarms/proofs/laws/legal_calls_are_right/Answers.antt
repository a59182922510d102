use Rattle.flux_swarms.proofs.Right.{legal_calls_are_right}
use Rattle.flux_swarms.proofs.laws.legal_calls_are_right.Goals as goal

pub returns : goal.returns
returns c = legal_calls_are_right
