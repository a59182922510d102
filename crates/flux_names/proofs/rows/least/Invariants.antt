use Rattle.std.proofs.Common.{◌≡◌, None, drop}
use Rattle.std.specs.List.{flat_map}
use Rattle.flux_syntax.specs.Least.{soonest}
use Rattle.flux_names.specs.steps.Rows.{row_words}
use Rattle.flux_names.proofs.rows.least.Given as goal

abbrev pub invariant-loop-decl : goal.invariant-loop-decl
invariant-loop-decl g l =
    soonest None (flat_map (row_words (g.L.Meaning.meaning l.library) l.known l.row) l.fn.decls)
    ≡ soonest l.place (flat_map (row_words (g.L.Meaning.meaning l.library) l.known l.row) (drop l.decl-index l.decls))
