use Rattle.std.proofs.Common.{◌≡◌, drop}
use Rattle.flux_names.specs.steps.Faults.{first_standing}
use Rattle.flux_names.proofs.resolving.first_standing.Given as goal

abbrev pub invariant-loop-kind : goal.invariant-loop-kind
invariant-loop-kind l =
    first_standing l.rows ≡ first_standing (drop l.kind-index l.rows)
