use Rattle.std.proofs.Common.{◌∙◌, sym}
use Rattle.flux_graph.specs.declared.steps.Step.TheVariants.{Enter, Leave}
use Rattle.flux_graph.proofs.Back.{took, passed_leave, passed_known, before_step}
use Rattle.flux_graph.proofs.returning.Return.next.Goals as goal

pub loop-step-preserved : goal.loop-step-preserved
loop-step-preserved c = (λ h. passed_known c.args.nodes.now c.args.start (before_step c.loop-step.self c.pop.new.self) c.in-Enter.node (took c.args.nodes.now c.args.start c.loop-step.self c.pop.new.self c.in-Some.step (Enter c.in-Enter.node) c.in-Some.ensures.taken c.in-Enter.is (c.loop-step.invariant.0 h)) c.if-node-start.false (sym c.has.ensures ∙ c.if-not-has.false), c.loop-step.invariant.1)

pub loop-step-preserved-in-Leave : goal.loop-step-preserved-in-Leave
loop-step-preserved-in-Leave c = (λ h. passed_leave c.args.nodes.now c.args.start (before_step c.loop-step.self c.pop.new.self) c.in-Leave.field-0 (took c.args.nodes.now c.args.start c.loop-step.self c.pop.new.self c.in-Some.step (Leave c.in-Leave.field-0) c.in-Some.ensures.taken c.in-Leave.is (c.loop-step.invariant.0 h)), c.loop-step.invariant.1)
