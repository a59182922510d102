use Rattle.flow_waits.proofs.Aside.{calls_keep_covers}
use Rattle.flow_waits.proofs.laws.calls_keep_covers.Goals as goal

pub returns : goal.returns
returns c = calls_keep_covers
