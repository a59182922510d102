use Rattle.flux_verify.proofs.Visiting.{code_more}
use Rattle.flux_verify.proofs.reaching.visit_code.Goals as goal

pub loop-instr-preserved : goal.loop-instr-preserved
loop-instr-preserved c = code_more c.args.visits.now c.loop-instr.visits c.visit_led.new.visits c.args.code.now c.loop-instr.instr-index c.instr-item.result c.loop-instr-test.true c.instr-item.is c.loop-instr.invariant c.in_ok-visit_led.ensures
