use Rattle.nodes_all.proofs.Joining.{has_web}
use Rattle.nodes_all.proofs.groups.has_web.Goals as goal

pub returns : goal.returns
returns c = has_web
