use Rattle.std.proofs.Common.{◌≡◌}
use Rattle.flux_graph.specs.steps.Descending.{among}
use Rattle.flux_graph.proofs.children.rising.Given as goal

abbrev pub invariant-loop-number : goal.invariant-loop-number
invariant-loop-number l = l.nodes ≡ among l.fn.visits l.number
