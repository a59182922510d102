use Rattle.std.proofs.Common.{◌≡◌, length}
use Rattle.flux_hoist.proofs.declarers.no_nodes.Given as goal

abbrev pub invariant-loop : goal.invariant-loop
invariant-loop l = length l.table ≡ l.counter
