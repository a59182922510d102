use Rattle.flux_headline.proofs.Simulations.{simulations_answered}
use Rattle.flux_headline.proofs.laws.simulations_are_answered.Goals as goal

pub returns : goal.returns
returns c = simulations_answered
