use Rattle.std.proofs.Common.{sym, ap, subst, ◌∙◌, arith, ◌∷◌, Some, None}
use Rattle.crossbeam_queue.specs.Fifo.{Pushes, Learns}
use Rattle.crossbeam_queue.specs.Passes.{view, ruled_capacity}
use Rattle.flow_queue.specs.Rule.{IsQueue, HasRoom, PutsNumber, moves_of, puts_of, takes_of}
use Rattle.flow_queue.specs.Calls.{PutsBack}
use Rattle.flow_queue.proofs.Told.{seen, puts-back}
use Rattle.flow_queue.proofs.Kept.{pushes, rooms}
use Rattle.flow_queue.specs.declared.views.View.TheVariants.{Working}
use Rattle.flow_queue.proofs.queues.FlowQueue.put.Goals as goal

pub push_as-requires-clause-rule : goal.push_as-requires-clause-rule
push_as-requires-clause-rule g c =
    let pass = c.pass.inside.pass in
    let known = view pass in
    let cap = ruled_capacity c.self.inside.queue in
    let flows = c.pass.inside.queue.value.flows in
    let is = c.pass.invariant.is ∙ ap (λ h. Working flows h (moves_of known) (puts_of known) (takes_of known)) c.in-Some.is in (
      subst (λ v. Pushes IsQueue cap pass.id v c.in-Some.number (PutsNumber v c.in-Some.number)) (sym is)
          (pushes cap flows pass.id c.in-Some.number (moves_of known) (puts_of known) (takes_of known)),
      subst (λ v. Learns IsQueue pass.id v (HasRoom v)) (sym is)
          (rooms flows pass.id (Some c.in-Some.number) (moves_of known) (puts_of known) (takes_of known)),
    )

pub returns : goal.returns
returns g c =
    let pass = c.pass.inside in
    subst (λ old. PutsBack old (seen pass.queue.value None (view c.push_as.new.pass))) c.pass.view_is
    (puts-back pass.queue.value pass.held c.in-Some.number (view pass.pass) (view c.push_as.new.pass) c.in-Some.is
    c.pass.invariant.is c.in-Ok.ensures.rule)
