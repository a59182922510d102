use Rattle.flux_laws.proofs.Stacked.{drops_are_held}
use Rattle.flux_laws.proofs.takes.drops_are_held.Goals as goal

pub returns : goal.returns
returns c = drops_are_held
