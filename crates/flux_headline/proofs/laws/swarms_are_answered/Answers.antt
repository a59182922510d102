use Rattle.flux_headline.proofs.Swarms.{swarms_answered}
use Rattle.flux_headline.proofs.laws.swarms_are_answered.Goals as goal

pub returns : goal.returns
returns c = swarms_answered
