use Rattle.std.proofs.Common.{◌∙◌, [], ℕ, replicate, ap, sym, subst}
use Rattle.std.specs.Str.{bytes_eq}
use Rattle.flux_names.specs.steps.Nodes.{subject, with_line}
use Rattle.flux_names.proofs.Symbols.{AreApart, names_apart}
use Rattle.flux_names.proofs.Gathered.{no_lines, line_gathered}
use Rattle.flux_names.proofs.lines.Lines.gathered.Goals as goal

pub loop-decl-init : goal.loop-decl-init
loop-decl-init c = c.in_ok-lines.ensures ∙ ap (λ (n : ℕ). replicate n []) c.len.ensures ∙ no_lines c.args.names.now

pub loop-decl-preserved : goal.loop-decl-preserved
loop-decl-preserved c =
    let names = c.args.names.now in
    let d = c.decl-item.result in
    let apart = subst (AreApart bytes_eq) (sym c.requires) (names_apart c.args.decls.now) in
    c.in_ok-add_line.ensures
    ∙ ap (with_line names d (subject d)) c.loop-decl.invariant
    ∙ line_gathered names c.args.decls.now c.loop-decl.decl-index d apart c.loop-decl-test.true c.decl-item.is
