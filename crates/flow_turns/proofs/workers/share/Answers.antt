use Rattle.std.proofs.Common.{subst}
use Rattle.flow_core.specs.Runs.{GoesOn}
use Rattle.flow_turns.proofs.workers.share.Goals as goal

pub returns-in-Err : goal.returns-in-Err
returns-in-Err g c = subst (λ core. GoesOn core c.give_up.result) c.in-Err.ensures.err c.give_up.ensures.on
