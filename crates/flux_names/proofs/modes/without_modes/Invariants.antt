use Rattle.std.proofs.Common.{◌≡◌, None, replicate}
use Rattle.flux_names.proofs.modes.without_modes.Given as goal

abbrev pub invariant-loop-number : goal.invariant-loop-number
invariant-loop-number l =
    l.modes.items ≡ replicate l._number None
