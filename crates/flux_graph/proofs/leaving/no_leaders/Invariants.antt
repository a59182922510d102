use Rattle.std.proofs.Common.{◌≡◌, length}
use Rattle.flux_graph.proofs.leaving.no_leaders.Given as goal

abbrev pub invariant-loop : goal.invariant-loop
invariant-loop l = length l.leaders.items ≡ l.counter
