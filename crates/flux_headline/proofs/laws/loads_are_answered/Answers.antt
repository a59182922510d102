use Rattle.flux_headline.proofs.Loading.{loads_answered}
use Rattle.flux_headline.proofs.laws.loads_are_answered.Goals as goal

pub returns : goal.returns
returns c = loads_answered
