use Rattle.std.proofs.Common.{◌≡◌, List, sym, ap, ◌∙◌}
use Rattle.flux_syntax.specs.declared.declarations.Decl.{Decl}
use Rattle.flux_types.specs.steps.Filling.{put_lines}
use Rattle.flux_types.proofs.Written.{put_lines-append}
use Rattle.flux_types.proofs.signatures.lines.Goals as goal

pub loop-decl-preserved : goal.loop-decl-preserved
loop-decl-preserved g c =
    let meaning = g.L.Meaning.meaning c.args.library.now in
    ap (put_lines meaning.kind c.args.names.now c.in-Some.others.now) c.in_ok-put_line.ensures
    ∙ sym (put_lines-append meaning.kind c.args.names.now c.in-Some.others.now c.in-Some.decl.now c.loop-decl.sigs)
    ∙ ap (λ (ds : List Decl). put_lines meaning.kind c.args.names.now ds c.loop-decl.sigs) (sym c.in-Some.ensures.cases.0)
    ∙ c.loop-decl.invariant
