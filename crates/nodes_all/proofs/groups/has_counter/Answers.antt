use Rattle.nodes_all.proofs.Joining.{has_counter}
use Rattle.nodes_all.proofs.groups.has_counter.Goals as goal

pub returns : goal.returns
returns c = has_counter
