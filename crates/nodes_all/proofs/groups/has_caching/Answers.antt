use Rattle.nodes_all.proofs.Joining.{has_caching}
use Rattle.nodes_all.proofs.groups.has_caching.Goals as goal

pub returns : goal.returns
returns c = has_caching
