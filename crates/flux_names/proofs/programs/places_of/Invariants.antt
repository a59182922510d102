use Rattle.std.proofs.Common.{◌≡◌, ◌++◌, drop}
use Rattle.flux_syntax.specs.ProgramOfText.{places}
use Rattle.flux_names.specs.steps.Picks.{words_now}
use Rattle.flux_names.proofs.programs.places_of.Given as goal

abbrev pub invariant-loop-word : goal.invariant-loop-word
invariant-loop-word l =
    places (words_now l.words) ≡ l.sites ++ places (words_now (drop l.word-index l.words))
