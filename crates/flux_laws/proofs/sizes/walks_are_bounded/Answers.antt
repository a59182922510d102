use Rattle.flux_laws.proofs.Growing.{walks_are_bounded}
use Rattle.flux_laws.proofs.sizes.walks_are_bounded.Goals as goal

pub returns : goal.returns
returns c = walks_are_bounded
