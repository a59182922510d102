use Rattle.flow_trials.proofs.Reached.{reached-start}
use Rattle.flow_trials.proofs.public_calls.is_answered.Goals as goal

pub loop-event-init : goal.loop-event-init
loop-event-init g c = reached-start c.args.plan.now _ c.in_ok-local.local _ c.in_ok-local.ensures
