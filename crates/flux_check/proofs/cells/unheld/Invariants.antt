use Rattle.std.proofs.Common.{◌≡◌, None, drop}
use Rattle.std.specs.List.{flat_map}
use Rattle.flux_syntax.specs.Least.{soonest}
use Rattle.flux_check.specs.steps.Seen.{unheld_in}
use Rattle.flux_check.proofs.cells.unheld.Given as goal

abbrev pub invariant-loop-decl : goal.invariant-loop-decl
invariant-loop-decl g l =
    let meaning = g.L.Meaning.meaning l.library in
    soonest None (flat_map (unheld_in meaning l.modes) l.fn.decls) ≡ soonest l.place (flat_map (unheld_in meaning l.modes) (drop l.decl-index l.decls))
