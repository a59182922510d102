use Rattle.flux_laws.proofs.Living.{not_all_blocked}
use Rattle.flux_laws.proofs.flows.not_all_blocked.Goals as goal

pub returns : goal.returns
returns c = not_all_blocked
