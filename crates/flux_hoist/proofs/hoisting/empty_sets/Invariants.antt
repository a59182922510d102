use Rattle.std.proofs.Common.{◌≡◌, length}
use Rattle.flux_hoist.proofs.hoisting.empty_sets.Given as goal

abbrev pub invariant-loop : goal.invariant-loop
invariant-loop l = length l.sets ≡ l.counter
