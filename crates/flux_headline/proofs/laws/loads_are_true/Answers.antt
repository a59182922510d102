use Rattle.flux_headline.proofs.Loading.{loads_true}
use Rattle.flux_headline.proofs.laws.loads_are_true.Goals as goal

pub returns : goal.returns
returns c = loads_true
