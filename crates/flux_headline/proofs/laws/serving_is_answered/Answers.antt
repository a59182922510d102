use Rattle.flux_headline.proofs.ServedHeadline.{serving_answered}
use Rattle.flux_headline.proofs.laws.serving_is_answered.Goals as goal

pub returns : goal.returns
returns c = serving_answered
