use Rattle.flux_headline.proofs.Headline.{runs_answered}
use Rattle.flux_headline.proofs.laws.runs_are_answered.Goals as goal

pub returns : goal.returns
returns c = runs_answered
