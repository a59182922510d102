use Rattle.std.proofs.Common.{◌≡◌, length}
use Rattle.flux_graph.proofs.LeaderLists.{HaveFirst}
use Rattle.flux_graph.proofs.leaving.leaders.Given as goal

abbrev pub invariant-loop-number : goal.invariant-loop-number
invariant-loop-number l = record {
  many : length l.leaders.items ≡ length l.nodes;
  have : HaveFirst l.nodes l.number l.leaders.items;
}
