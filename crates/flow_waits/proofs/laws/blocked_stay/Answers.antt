use Rattle.flow_waits.proofs.Blocked.{blocked_stay}
use Rattle.flow_waits.proofs.laws.blocked_stay.Goals as goal

pub returns : goal.returns
returns c = blocked_stay
