use Rattle.std.proofs.Common.{◌≡◌}
use Rattle.flux_load.specs.Loads.{items_text}
use Rattle.flux_load.proofs.texts.make_items.Given as goal

abbrev pub invariant-loop-place : goal.invariant-loop-place
invariant-loop-place l = l.out ≡ items_text l.place l.first
