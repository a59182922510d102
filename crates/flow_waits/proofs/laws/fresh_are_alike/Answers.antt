use Rattle.flow_waits.proofs.Blocked.{fresh_are_alike}
use Rattle.flow_waits.proofs.laws.fresh_are_alike.Goals as goal

pub returns : goal.returns
returns c = fresh_are_alike
