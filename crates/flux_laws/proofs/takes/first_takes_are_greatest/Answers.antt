use Rattle.flux_laws.proofs.Stacked.{first_takes_are_greatest}
use Rattle.flux_laws.proofs.takes.first_takes_are_greatest.Goals as goal

pub returns : goal.returns
returns c = first_takes_are_greatest
