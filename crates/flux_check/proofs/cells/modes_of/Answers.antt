use Rattle.std.proofs.Common.{◌∙◌, ◌+◌, ◌++◌, List, drop, ap, sym}
use Rattle.std.specs.List.{flat_map}
use Rattle.std.proofs.lemmas.List.{at_drop_more}
use Rattle.flux_syntax.specs.declared.declarations.Decl.{Decl}
use Rattle.flux_check.specs.Rows.{constraints_in}
use Rattle.flux_check.specs.steps.Seen.{Flags, and_modes}
use Rattle.flux_check.proofs.Held.{modes_append}
use Rattle.flux_check.proofs.cells.modes_of.Goals as goal

pub loop-decl-preserved : goal.loop-decl-preserved
loop-decl-preserved c =
    let decls = c.args.decls.now in
    let i = c.loop-decl.decl-index in
    let modes = c.loop-decl.modes in
    let d = c.decl-item.result in
    let rest = flat_map constraints_in (drop (i + 1) decls) in
    c.loop-decl.invariant
    ∙ at_drop_more (λ (ds : List Decl). and_modes modes (flat_map constraints_in ds)) decls i d c.loop-decl-test.true
    ∙ ap (λ (x : Decl). and_modes modes (constraints_in x ++ rest)) (sym c.decl-item.is)
    ∙ modes_append modes (constraints_in d) rest
    ∙ ap (λ (t : Flags). and_modes t rest) (sym c.in_ok-see_line.ensures)
