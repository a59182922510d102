use Rattle.std.proofs.Common.{◌∙◌, ◌++◌, ap}
use Rattle.std.specs.List.{flat_map}
use Rattle.flux_syntax.specs.Words.{names_after, first_words_after, defined, sourced}
use Rattle.flux_syntax.specs.ProgramOfText.{constraints_of}
use Rattle.flux_names.specs.declared.programs.Symbols.{Symbols}
use Rattle.flux_names.specs.steps.Sorts.{names_by_after}
use Rattle.flux_names.specs.steps.Classes.{classes_after, words_by}
use Rattle.flux_names.proofs.Canonical.{classes_are, words_are}
use Rattle.flux_names.proofs.programs.Symbols.fill.Goals as goal

pub returns-clause-names : goal.returns-clause-names
returns-clause-names c =
    c.in_ok-add_lines.ensures.names ∙ ap (λ (s : Symbols). names_after s.nodes.names c.args.decls.now) c.requires

pub returns-clause-words : goal.returns-clause-words
returns-clause-words c =
    c.in_ok-add_lines.ensures.words ∙ ap (λ (s : Symbols). s.nodes.words ++ first_words_after s.nodes.names c.args.decls.now) c.requires

pub returns-clause-classes : goal.returns-clause-classes
returns-clause-classes c =
    let constraints = flat_map constraints_of c.args.decls.now in
    c.in_ok-add_lines-2.ensures.classes
    ∙ ap (λ (s : Symbols). classes_after s.classes.classes constraints) c.requires
    ∙ classes_are constraints

pub returns-clause-class_words : goal.returns-clause-class_words
returns-clause-class_words c =
    let constraints = flat_map constraints_of c.args.decls.now in
    c.in_ok-add_lines-2.ensures.words
    ∙ ap (λ (s : Symbols). s.classes.words ++ words_by s.classes.classes constraints) c.requires
    ∙ words_are constraints

pub returns-clause-types : goal.returns-clause-types
returns-clause-types c =
    c.in_ok-add_names.ensures ∙ ap (λ (s : Symbols). names_by_after defined s.types c.args.decls.now) c.requires

pub returns-clause-sources : goal.returns-clause-sources
returns-clause-sources c =
    c.in_ok-add_names-2.ensures ∙ ap (λ (s : Symbols). names_by_after sourced s.sources c.args.decls.now) c.requires
