use Rattle.flux_headline.proofs.ServedHeadline.{serving_true}
use Rattle.flux_headline.proofs.laws.serving_is_true.Goals as goal

pub returns : goal.returns
returns c = serving_true
