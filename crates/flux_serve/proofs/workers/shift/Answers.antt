use denote.Param.Send.{sendable}
use Rattle.std.proofs.Common.{slice_index_or, sym, subst}
use Rattle.std.proofs.Crossing.{sync as heap_sync}
use Rattle.flow_shared.specs.States.{SeatState}
use Rattle.flux_serve.specs.declared.queues.WorkerQueue.{WorkerQueue}
use Rattle.flux_serve.specs.steps.Workers.{HasSeat, HasWorked}
use Rattle.flux_serve.proofs.Crossing.{seat_send, all_sync, queue_send}
use Rattle.flux_serve.proofs.workers.shift.Goals as goal

pub for_each_mut-requires-send-T : goal.for_each_mut-requires-send-T
for_each_mut-requires-send-T g c κs within = search (queue_send, seat_send, sendable) depth 60

pub for_each_mut-requires-sync-F : goal.for_each_mut-requires-sync-F
for_each_mut-requires-sync-F g c κs within = search (all_sync, heap_sync, sendable) depth 60

pub for_each_mut-requires-clause-accepts : goal.for_each_mut-requires-clause-accepts
for_each_mut-requires-clause-accepts g c κs within i p below is =
    let H : WorkerQueue (SeatState g.row.L.Denot) g.row.K.Denot → Type 0 = HasSeat c.args.shared.now in
    subst H (sym is) (c.requires.seats i p.now below)

pub returns : goal.returns
returns g c place none below =
    let see = g.K.Link.seen in
    let changed = (c.for_each_mut.ensures place none below).1 in
    let argument = changed.argument in
    let O : WorkerQueue (SeatState g.row.L.Denot) g.row.K.Denot → Type 0 = λ old. HasWorked see c.args.shared.now old (slice_index_or c.for_each_mut.new.s place none) in
    let N : WorkerQueue (SeatState g.row.L.Denot) g.row.K.Denot → Type 0 = λ new. HasWorked see c.args.shared.now argument.now new in
    subst O changed.argument_is (subst N changed.left changed.call)
