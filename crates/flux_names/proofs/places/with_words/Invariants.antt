use Rattle.std.proofs.Common.{◌≡◌, drop}
use Rattle.flux_syntax.specs.Least.{soonest}
use Rattle.flux_names.specs.steps.Picks.{words_now}
use Rattle.flux_names.proofs.places.with_words.Given as goal

abbrev pub invariant-loop-word : goal.invariant-loop-word
invariant-loop-word l =
    soonest l.fn.place (words_now l.fn.words) ≡ soonest l.place (words_now (drop l.word-index l.words))
