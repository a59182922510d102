use Rattle.std.proofs.Common.{sym, subst}
use Rattle.crossbeam_queue.specs.Fifo.{Forks}
use Rattle.flow_queue.specs.Rule.{IsQueue, opened}
use Rattle.flow_queue.proofs.Kept.{begins, opened_with}
use Rattle.flow_queue.proofs.queues.FlowQueue.new.Goals as goal

pub ruled-requires-clause-rule : goal.ruled-requires-clause-rule
ruled-requires-clause-rule g c = begins

pub another-spare-requires-clause-rule : goal.another-spare-requires-clause-rule
another-spare-requires-clause-rule g c =
    let pass = c.open.new.pass in
    subst (λ v. Forks IsQueue pass.id v (opened v) (opened v)) (sym c.open.ensures.opened)
    (opened_with pass.id c.args.flows)
