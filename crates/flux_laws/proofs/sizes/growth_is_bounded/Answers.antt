use Rattle.flux_laws.proofs.Growing.{growth_is_bounded}
use Rattle.flux_laws.proofs.sizes.growth_is_bounded.Goals as goal

pub returns : goal.returns
returns c = growth_is_bounded
