use Rattle.std.proofs.Common.{◌≡◌}
use Rattle.flux_graph.specs.steps.Searching.{enters, numbered}
use Rattle.flux_graph.proofs.steps.enter_below.Given as goal

abbrev pub invariant-loop-number : goal.invariant-loop-number
invariant-loop-number l = l.steps ≡ enters (numbered l.number)
