use Rattle.flux_headline.proofs.Prints.{looks_answered}
use Rattle.flux_headline.proofs.laws.looks_are_answered.Goals as goal

pub returns : goal.returns
returns c = looks_answered
