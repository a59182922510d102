use Rattle.std.proofs.Common.{◌≡◌, take}
use Rattle.std.specs.List.{filter}
use Rattle.flux_constraints.specs.steps.Places.{is_up_to}
use Rattle.flux_constraints.proofs.sets.copy_up_to.Given as goal

abbrev pub invariant-loop-hold : goal.invariant-loop-hold
invariant-loop-hold l = l.lower.items ≡ filter (is_up_to l.class) (take l.hold-index l.holds)
