use Rattle.flux_laws.proofs.Growing.{own_events_are_bounded}
use Rattle.flux_laws.proofs.sizes.own_events_are_bounded.Goals as goal

pub returns : goal.returns
returns c = own_events_are_bounded
