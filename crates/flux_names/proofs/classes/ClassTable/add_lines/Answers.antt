use Rattle.std.proofs.Common.{◌∙◌, ◌+◌, ◌++◌, List, drop, ap, sym}
use Rattle.std.specs.List.{flat_map}
use Rattle.std.proofs.lemmas.List.{at_drop_more, at_drop_all, append-nil, append_assoc}
use Rattle.flux_model.specs.declared.programs.Class.{Class}
use Rattle.flux_syntax.specs.declared.declarations.Word.{Word}
use Rattle.flux_syntax.specs.declared.declarations.Decl.{Decl}
use Rattle.flux_syntax.specs.ProgramOfText.{constraints_of}
use Rattle.flux_names.specs.steps.Classes.{classes_after, words_by}
use Rattle.flux_names.proofs.Canonical.{classes_append, words_append}
use Rattle.flux_names.proofs.classes.ClassTable.add_lines.Goals as goal

pub loop-decl-preserved : goal.loop-decl-preserved
loop-decl-preserved c =
    let decls = c.args.decls.now in
    let i = c.loop-decl.decl-index in
    let table = c.loop-decl.self in
    let d = c.decl-item.result in
    let rest = flat_map constraints_of (drop (i + 1) decls) in
    let lt = c.loop-decl-test.true in (
      c.loop-decl.invariant.0
          ∙ at_drop_more (λ (ds : List Decl). classes_after table.classes (flat_map constraints_of ds)) decls i d lt
          ∙ ap (λ (x : Decl). classes_after table.classes (constraints_of x ++ rest)) (sym c.decl-item.is)
          ∙ classes_append table.classes (constraints_of d) rest
          ∙ ap (λ (l : List Class). classes_after l rest) (sym c.in_ok-add_line.ensures.classes),
      c.loop-decl.invariant.1
          ∙ at_drop_more (λ (ds : List Decl). table.words ++ words_by table.classes (flat_map constraints_of ds)) decls i d lt
          ∙ ap (λ (x : Decl). table.words ++ words_by table.classes (constraints_of x ++ rest)) (sym c.decl-item.is)
          ∙ ap (λ (l : List Word). table.words ++ l) (words_append table.classes (constraints_of d) rest)
          ∙ sym (append_assoc table.words (words_by table.classes (constraints_of d)) (words_by (classes_after table.classes (constraints_of d)) rest))
          ∙ ap (λ (l : List Word). l ++ words_by (classes_after table.classes (constraints_of d)) rest) (sym c.in_ok-add_line.ensures.words)
          ∙ ap (λ (l : List Class). c.add_line.new.self.words ++ words_by l rest) (sym c.in_ok-add_line.ensures.classes),
    )

pub returns-clause-classes : goal.returns-clause-classes
returns-clause-classes c =
    sym (c.loop-decl.invariant.0
    ∙ at_drop_all (λ (ds : List Decl). classes_after c.loop-decl.self.classes (flat_map constraints_of ds)) c.args.decls.now c.loop-decl.decl-index c.loop-decl-test.false)

pub returns-clause-words : goal.returns-clause-words
returns-clause-words c =
    let table = c.loop-decl.self in
    sym (c.loop-decl.invariant.1
    ∙ at_drop_all (λ (ds : List Decl). table.words ++ words_by table.classes (flat_map constraints_of ds)) c.args.decls.now c.loop-decl.decl-index c.loop-decl-test.false
    ∙ append-nil table.words)
