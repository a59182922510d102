use Rattle.flux_upheld.proofs.Upholding.{legal_is_bounded}
use Rattle.flux_upheld.proofs.laws.legal_journals_are_bounded.Goals as goal

pub returns : goal.returns
returns c = legal_is_bounded
