use Rattle.std.proofs.Common.{◌≡◌, ◌++◌, drop}
use Rattle.std.specs.List.{flat_map}
use Rattle.flux_syntax.specs.ProgramOfText.{constraints_of}
use Rattle.flux_names.specs.steps.Classes.{classes_after, words_by}
use Rattle.flux_names.proofs.classes.ClassTable.add_lines.Given as goal

abbrev pub invariant-loop-decl : goal.invariant-loop-decl
invariant-loop-decl l =
    (classes_after l.fn.self.classes (flat_map constraints_of l.fn.decls) ≡ classes_after l.self.classes (flat_map constraints_of (drop l.decl-index l.decls)))
    × (l.fn.self.words ++ words_by l.fn.self.classes (flat_map constraints_of l.fn.decls) ≡ l.self.words ++ words_by l.self.classes (flat_map constraints_of (drop l.decl-index l.decls)))
