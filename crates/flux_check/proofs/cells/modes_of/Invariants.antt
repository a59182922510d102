use Rattle.std.proofs.Common.{◌≡◌, [], drop}
use Rattle.std.specs.List.{flat_map}
use Rattle.flux_check.specs.Rows.{constraints_in}
use Rattle.flux_check.specs.steps.Seen.{and_modes}
use Rattle.flux_check.proofs.cells.modes_of.Given as goal

abbrev pub invariant-loop-decl : goal.invariant-loop-decl
invariant-loop-decl l =
    and_modes [] (flat_map constraints_in l.fn.decls) ≡ and_modes l.modes (flat_map constraints_in (drop l.decl-index l.decls))
