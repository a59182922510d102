use Rattle.flux_laws.proofs.Growing.{nodes_are_bounded}
use Rattle.flux_laws.proofs.sizes.nodes_are_bounded.Goals as goal

pub returns : goal.returns
returns c = nodes_are_bounded
