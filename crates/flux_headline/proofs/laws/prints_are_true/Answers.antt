use Rattle.flux_headline.proofs.Prints.{prints_true}
use Rattle.flux_headline.proofs.laws.prints_are_true.Goals as goal

pub returns : goal.returns
returns c = prints_true
