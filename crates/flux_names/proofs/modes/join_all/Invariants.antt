use Rattle.std.proofs.Common.{◌≡◌, length, drop}
use Rattle.flux_names.specs.steps.Classes.{with_constraints}
use Rattle.flux_names.proofs.modes.join_all.Given as goal

abbrev pub invariant-loop-constraint : goal.invariant-loop-constraint
invariant-loop-constraint l =
    (length l.modes.items ≡ length l.classes)
    × (with_constraints l.fn.constraints l.classes l.fn.modes.items ≡ with_constraints (drop l.constraint-index l.constraints) l.classes l.modes.items)
