use Rattle.std.proofs.Common.{◌∙◌, ◌+◌, Option, ℕ, drop, sym, ap}
use Rattle.std.specs.List.{flat_map}
use Rattle.flux_syntax.specs.declared.declarations.Decl.{Decl}
use Rattle.flux_syntax.specs.Least.{soonest}
use Rattle.flux_names.specs.steps.Rows.{row_words}
use Rattle.flux_names.proofs.Stepwise.{soonest_more}
use Rattle.flux_names.proofs.rows.least.Goals as goal

pub loop-decl-preserved : goal.loop-decl-preserved
loop-decl-preserved g c =
    let words = row_words (g.L.Meaning.meaning c.args.library.now) c.args.known.now c.args.row in
    let decls = c.args.decls.now in
    let i = c.loop-decl.decl-index in
    c.loop-decl.invariant
    ∙ soonest_more words c.loop-decl.place decls i c.decl-item.result c.loop-decl-test.true
    ∙ ap (λ (p : Option ℕ). soonest p (flat_map words (drop (i + 1) decls)))
    (ap (λ (d : Decl). soonest c.loop-decl.place (words d)) (sym c.decl-item.is) ∙ sym c.in_ok-place.ensures)
