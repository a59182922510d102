use Rattle.nodes_tracker.specs.laws.Swarms.{nothing_else}
use Rattle.nodes_tracker.proofs.laws.nothing_else_reads.Goals as goal

pub returns : goal.returns
returns c = nothing_else
