use Rattle.std.proofs.Common.{◌≡◌, ◌++◌, drop}
use Rattle.flux_names.specs.steps.Classes.{classes_after, words_by}
use Rattle.flux_names.proofs.classes.ClassTable.add_all.Given as goal

abbrev pub invariant-loop-constraint : goal.invariant-loop-constraint
invariant-loop-constraint l =
    (classes_after l.fn.self.classes l.fn.constraints ≡ classes_after l.self.classes (drop l.constraint-index l.constraints))
    × (l.fn.self.words ++ words_by l.fn.self.classes l.fn.constraints ≡ l.self.words ++ words_by l.self.classes (drop l.constraint-index l.constraints))
