use Rattle.std.proofs.Common.{◌≡◌, ◌++◌, take}
use Rattle.flux_graph.specs.steps.Searching.{enters}
use Rattle.flux_graph.proofs.steps.enter_all.Given as goal

abbrev pub invariant-loop-node : goal.invariant-loop-node
invariant-loop-node l = l.steps ≡ l.fn.steps ++ enters (take l.node-index l.nodes)
