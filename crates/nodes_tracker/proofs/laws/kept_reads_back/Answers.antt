use Rattle.nodes_tracker.specs.laws.Swarms.{reads_back}
use Rattle.nodes_tracker.proofs.laws.kept_reads_back.Goals as goal

pub returns : goal.returns
returns c = reads_back
