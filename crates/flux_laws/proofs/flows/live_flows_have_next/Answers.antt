use Rattle.flux_laws.proofs.Ends.{live_flows_have_next}
use Rattle.flux_laws.proofs.flows.live_flows_have_next.Goals as goal

pub returns : goal.returns
returns c = live_flows_have_next
