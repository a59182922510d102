use Rattle.flux_laws.proofs.Deciding.{some_flow_can_go_on}
use Rattle.flux_laws.proofs.flows.some_flow_can_go_on.Goals as goal

pub returns : goal.returns
returns c = some_flow_can_go_on
