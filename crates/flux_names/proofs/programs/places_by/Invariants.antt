use Rattle.std.proofs.Common.{◌≡◌, ◌++◌, drop}
use Rattle.std.specs.List.{filter_map}
use Rattle.flux_syntax.specs.ProgramOfText.{places}
use Rattle.flux_names.specs.steps.Sorts.{word_of}
use Rattle.flux_names.proofs.programs.places_by.Given as goal

abbrev pub invariant-loop-decl : goal.invariant-loop-decl
invariant-loop-decl l =
    places (filter_map (word_of l.sort) l.decls) ≡ l.sites ++ places (filter_map (word_of l.sort) (drop l.decl-index l.decls))
