use Rattle.flux_headline.proofs.LoadsUpheld.{loads_are_upheld}
use Rattle.flux_headline.proofs.laws.loads_are_upheld.Goals as goal

pub returns : goal.returns
returns c = loads_are_upheld
