use Rattle.flux_laws.proofs.Ends.{none_live_is_whole}
use Rattle.flux_laws.proofs.flows.none_live_is_whole.Goals as goal

pub returns : goal.returns
returns c = none_live_is_whole
