use Rattle.flux_headline.proofs.Headline.{runs_true}
use Rattle.flux_headline.proofs.laws.runs_are_true.Goals as goal

pub returns : goal.returns
returns c = runs_true
