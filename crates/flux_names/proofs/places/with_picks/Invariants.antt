use Rattle.std.proofs.Common.{◌≡◌, drop}
use Rattle.flux_syntax.specs.Least.{soonest}
use Rattle.flux_names.specs.steps.Picks.{picked}
use Rattle.flux_names.proofs.places.with_picks.Given as goal

abbrev pub invariant-loop-word : goal.invariant-loop-word
invariant-loop-word l =
    soonest l.fn.place (picked l.among l.names l.fn.words) ≡ soonest l.place (picked l.among l.names (drop l.word-index l.words))
