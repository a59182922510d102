use Rattle.flux_verify.proofs.Visiting.{arms_more}
use Rattle.flux_verify.proofs.reaching.visit_handlers.Goals as goal

pub loop-arm-preserved : goal.loop-arm-preserved
loop-arm-preserved c = arms_more c.args.visits.now c.loop-arm.visits c.add.new.self c.args.arms.now c.loop-arm.arm-index c.arm-item.result c.loop-arm-test.true c.arm-item.is c.loop-arm.invariant c.in_ok-add.ensures
