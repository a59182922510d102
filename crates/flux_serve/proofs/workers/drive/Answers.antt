use Rattle.std.proofs.Common.{[], slice_index_or, refl, sym, subst, arith}
use Rattle.std.proofs.lemmas.List.{append-nil}
use Rattle.flow_core.specs.States.{CoreState}
use Rattle.flow_core.specs.Runs.{GoesOn}
use Rattle.flux_serve.proofs.Shares.{replies-same}
use Rattle.flux_serve.proofs.Working.{has-worked, worked-joined}
use Rattle.flux_serve.proofs.workers.drive.Goals as goal

pub join_all-seat-requires-clause-seats : goal.join_all-seat-requires-clause-seats
join_all-seat-requires-clause-seats g c place none below =
    let see = g.K.Link.seen in
    has-worked see _ (slice_index_or c.seat_all-seat.new.queues place none) (slice_index_or c.shift.new.queues place none)
    (c.shift.ensures place none (omega (arith, below, c.shift.auto.queues)))

pub returns-in-Ok-clause-replies : goal.returns-in-Ok-clause-replies
returns-in-Ok-clause-replies g c place none below =
    let see = g.K.Link.seen in
    let core = c.close.result in
    worked-joined see _ core.entries c.join_all-seat.result (slice_index_or c.args.queues.now place none) (slice_index_or c.seat_all-seat.new.queues place none)
    (slice_index_or c.shift.new.queues place none) (slice_index_or c.join_all-seat.new.queues place none)
    (c.seat_all-seat.ensures.replies place none below)
    (c.shift.ensures place none (omega (arith, below, c.seat_all-seat.auto.queues)))
    (c.join_all-seat.ensures.queues place none (omega (arith, below, c.seat_all-seat.auto.queues, c.shift.auto.queues)))
    c.close.ensures.seen

pub returns-in-Err-clause-on : goal.returns-in-Err-clause-on
returns-in-Err-clause-on g c =
    let core = c.args.core in
    let G : CoreState g.row.L.Denot → Type 0 = GoesOn core in
    subst G (sym c.in-Err.ensures.err) (record { setup_ = refl; more = []; added = sym (append-nil core.entries) })

pub returns-in-Err-clause-replies : goal.returns-in-Err-clause-replies
returns-in-Err-clause-replies g c place none below =
    let see = g.K.Link.seen in
    replies-same see _ _
