use Rattle.flux_headline.proofs.Audits.{audits_answered}
use Rattle.flux_headline.proofs.laws.audits_are_answered.Goals as goal

pub returns : goal.returns
returns c = audits_answered
