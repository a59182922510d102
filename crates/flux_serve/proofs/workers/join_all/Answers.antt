use Rattle.std.proofs.Common.{ℕ, ◌<◌, length, slice_index_or, sym, subst, ◌∙◌, arith}
use Rattle.std.proofs.lemmas.List.{length-set}
use Rattle.flow_shared.specs.States.{SeatState}
use Rattle.flux_serve.specs.declared.queues.WorkerQueue.{WorkerQueue}
use Rattle.flux_serve.specs.steps.Workers.{HasSeat, WasJoined}
use Rattle.flux_serve.proofs.Working.{set-below, set-behind, joined-later, other-default}
use Rattle.flux_serve.proofs.workers.join_all.Goals as goal

pub join_queue-seat-requires-clause-has : goal.join_queue-seat-requires-clause-has
join_queue-seat-requires-clause-has g c =
    let before = c.loop-place.invariant in
    let at = c.loop-place.place in
    let none = c.index-queues-place.result in
    let within : at < length c.loop-place.queues = omega (arith, c.loop-place-test.true, before.1) in
    let H : WorkerQueue (SeatState g.row.L.Denot) g.row.K.Denot → Type 0 = HasSeat c.args.shared.now in
    subst H (sym (before.3 at none (omega arith) within)) (c.requires.seats at none c.loop-place-test.true)

pub loop-place-preserved : goal.loop-place-preserved
loop-place-preserved g c =
    let before = c.loop-place.invariant in
    let at = c.loop-place.place in
    let queues = c.loop-place.queues in
    let firsts = c.args.queues.now in
    let or = c.index-queues-place.result in
    let queue = c.join_queue-seat.new.queue in
    let seat = c.join_queue-seat.result in
    let within : at < length queues = omega (arith, c.loop-place-test.true, before.1) in
    let P : ℕ → WorkerQueue (SeatState g.row.L.Denot) g.row.K.Denot → WorkerQueue (SeatState g.row.L.Denot) g.row.K.Denot → Type 0 = λ p none x. WasJoined seat (slice_index_or firsts p none) x in
    let same = before.3 at or (omega arith) within in
    let J : WorkerQueue (SeatState g.row.L.Denot) g.row.K.Denot → Type 0 = λ old. WasJoined seat old queue in
    let own : WasJoined seat (slice_index_or queues at or) queue = record { seen_ = c.join_queue-seat.ensures.other; replies_ = c.join_queue-seat.ensures.replies } in (
      c.join_queue-seat.ensures.shared,
      length-set queues at queue ∙ before.1,
      set-below P queues at queue within
          (λ none. subst J (same ∙ other-default firsts at or none (omega (arith, within, before.1))) own)
          (λ p none below. joined-later c.loop-place.seat seat (slice_index_or firsts p none) (slice_index_or queues p none) c.join_queue-seat.ensures.seen (before.2 p none below)),
      (λ p none behind below. set-behind queues at queue p none (omega (arith, behind)) ∙ before.3 p none (omega (arith, behind)) (omega (arith, below, length-set queues at queue))),
    )
