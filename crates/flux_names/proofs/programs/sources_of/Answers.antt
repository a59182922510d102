use Rattle.std.proofs.Common.{◌∙◌, ◌++◌, [], ◌∷◌, List, take, ap, sym}
use Rattle.std.specs.List.{flat_map}
use Rattle.std.proofs.lemmas.List.{take_more}
use Rattle.std.proofs.lemmas.List.Concat.{flat_map-append}
use Rattle.std.proofs.lemmas.List.{append-nil}
use Rattle.flux_model.specs.declared.programs.SourceLine.{SourceLine}
use Rattle.flux_syntax.specs.declared.declarations.Decl.{Decl}
use Rattle.flux_names.specs.steps.Nodes.{sources_in}
use Rattle.flux_names.proofs.Gathered.{known_lines}
use Rattle.flux_names.proofs.programs.sources_of.Goals as goal

pub add_source-requires-clause-known : goal.add_source-requires-clause-known
add_source-requires-clause-known c =
    (known_lines c.args.names.now c.args.decls.now c.loop-decl.decl-index c.decl-item.result c.loop-decl-test.true c.decl-item.is c.loop-decl.invariant.1).0

pub loop-decl-preserved : goal.loop-decl-preserved
loop-decl-preserved c =
    let names = c.args.names.now in
    let lines = c.args.lines.now in
    let decls = c.args.decls.now in
    let i = c.loop-decl.decl-index in
    let d = c.decl-item.result in (
      c.in_ok-add_source.ensures
          ∙ ap (λ (l : List SourceLine). l ++ sources_in names lines d) c.loop-decl.invariant.0
          ∙ ap (λ (l : List SourceLine). flat_map (sources_in names lines) (take i decls) ++ l) (sym (append-nil (sources_in names lines d)))
          ∙ sym (flat_map-append (sources_in names lines) (take i decls) (d ∷ []))
          ∙ ap (flat_map (sources_in names lines)) (ap (λ (x : Decl). take i decls ++ x ∷ []) c.decl-item.is ∙ sym (take_more decls i d c.loop-decl-test.true)),
      (known_lines names decls i d c.loop-decl-test.true c.decl-item.is c.loop-decl.invariant.1).1,
    )
