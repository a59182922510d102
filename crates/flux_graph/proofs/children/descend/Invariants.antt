use Rattle.std.proofs.Common.{length, drop, reverse}
use Rattle.flux_graph.specs.steps.Descending.{IsOnTheWay}
use Rattle.flux_graph.proofs.children.descend.Given as goal

abbrev pub invariant-loop-node : goal.invariant-loop-node
invariant-loop-node l = IsOnTheWay l.p l.fn.top.0 l.visits (drop (length l.yielded) (reverse l.fn.order))
