use Rattle.std.proofs.Common.{take}
use Rattle.flux_graph.specs.steps.Leaders.{LeadsToAll}
use Rattle.flux_graph.proofs.leaving.add_leader_of_all.Given as goal

abbrev pub invariant-loop-number : goal.invariant-loop-number
invariant-loop-number l = LeadsToAll l.node (take l.number-index l.led) l.initial.leaders.items l.leaders.items
