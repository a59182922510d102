use Rattle.std.proofs.Common.{◌≡◌, length}
use Rattle.flux_items.specs.steps.Values.{AreSoFar}
use Rattle.flux_items.proofs.spellings.read_values.Given as goal

abbrev pub invariant-values : goal.invariant-values
invariant-values l = (l.kept.kinds.now ≡ l.kinds) × AreSoFar l.kinds l.text l.rest l.kept.values l.kept.fits

abbrev pub decreases-values : goal.decreases-values
decreases-values l = length l.rest
