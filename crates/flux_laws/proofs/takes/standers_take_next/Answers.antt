use Rattle.flux_laws.proofs.Stacked.{standers_take_next}
use Rattle.flux_laws.proofs.takes.standers_take_next.Goals as goal

pub returns : goal.returns
returns c = standers_take_next
