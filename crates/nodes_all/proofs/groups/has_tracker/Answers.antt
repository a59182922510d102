use Rattle.nodes_all.proofs.Joining.{has_tracker}
use Rattle.nodes_all.proofs.groups.has_tracker.Goals as goal

pub returns : goal.returns
returns c = has_tracker
