use Rattle.std.proofs.Common.{◌≡◌, replicate}
use Rattle.flux_hoist.proofs.sizes.zeros.Given as goal

abbrev pub invariant-loop : goal.invariant-loop
invariant-loop l = l.sizes ≡ replicate l.counter 0
