use Rattle.std.proofs.Common.{sym, ap, subst, ◌∙◌, arith, ◌∷◌}
use Rattle.crossbeam_queue.specs.Fifo.{Pops, Learns}
use Rattle.crossbeam_queue.specs.Passes.{view}
use Rattle.flow_queue.specs.Rule.{IsQueue, HasMoment, TakesNumber, moves_of, puts_of, takes_of}
use Rattle.flow_queue.proofs.Kept.{pops, moment}
use Rattle.flow_queue.proofs.queues.FlowQueue.take.Goals as goal

pub pop_as-requires-clause-rule : goal.pop_as-requires-clause-rule
pop_as-requires-clause-rule g c =
    let pass = c.pass.inside.pass in
    let known = view pass in (
      subst (λ v. Pops IsQueue pass.id v (TakesNumber v)) (sym c.pass.invariant.is)
          (pops _ pass.id c.pass.inside.held (moves_of known) (puts_of known) (takes_of known)),
      moment pass.id known,
    )
