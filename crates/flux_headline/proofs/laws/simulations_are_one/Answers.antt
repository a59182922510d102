use Rattle.flux_headline.proofs.OneSimulation.{simulations_are_one}
use Rattle.flux_headline.proofs.laws.simulations_are_one.Goals as goal

pub returns : goal.returns
returns c = simulations_are_one
