use Rattle.std.proofs.Common.{◌≡◌, drop}
use Rattle.flux_check.specs.steps.Seen.{constraints_with, and_modes}
use Rattle.flux_check.proofs.cells.see_all.Given as goal

abbrev pub invariant-loop-constraint : goal.invariant-loop-constraint
invariant-loop-constraint l =
    and_modes l.fn.modes (constraints_with l.node l.fn.constraints) ≡ and_modes l.modes (constraints_with l.node (drop l.constraint-index l.constraints))
