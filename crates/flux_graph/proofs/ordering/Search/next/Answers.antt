use Rattle.std.proofs.Common.{◌∙◌, ap, sym}
use Rattle.flux_graph.proofs.Moves.{not_known, took_leave, took_known, took_enter, without}
use Rattle.flux_graph.proofs.Circles.{cycle_found}
use Rattle.flux_graph.proofs.ordering.Search.next.Goals as goal

pub loop-step-preserved-in-Continue-1 : goal.loop-step-preserved-in-Continue-1
loop-step-preserved-in-Continue-1 c = (λ h. took_leave c.args.nodes.now c.loop-step.self c.leave.new.self c.pop.new.self c.in-Some.step c.in-Leave.node c.in-Some.ensures.taken c.in-Leave.is c.in_ok-leave-in-Leave.ensures (c.loop-step.invariant.0 h), ap (λ s. s.entered) c.in_ok-leave-in-Leave.ensures ∙ c.loop-step.invariant.1)

pub returns-then-not-has-2-clause-cycle : goal.returns-then-not-has-2-clause-cycle
returns-then-not-has-2-clause-cycle c = λ h. (cycle_found c.args.nodes.now (without c.loop-step.self c.pop.new.self) c.in-Enter.node (took_enter c.args.nodes.now c.loop-step.self c.pop.new.self c.in-Some.step c.in-Enter.node c.in-Some.ensures.taken c.in-Enter.is (c.loop-step.invariant.0 h)) (sym c.has.ensures ∙ c.if-not-has.false) (not_known c.in-Enter.node.0 c.loop-step.self.done (sym c.has-in-Enter.ensures ∙ c.if-not-has-2.true)))

pub loop-step-preserved : goal.loop-step-preserved
loop-step-preserved c = (λ h. took_known c.args.nodes.now c.loop-step.self c.pop.new.self c.in-Some.step c.in-Enter.node c.in-Some.ensures.taken c.in-Enter.is (sym c.has-in-Enter.ensures ∙ c.if-not-has-2.false) (c.loop-step.invariant.0 h), c.loop-step.invariant.1)
