use Rattle.std.proofs.Common.{◌≡◌, ℕ, ◌<◌, length, slice_index_or, Some, refl, ap, ◌∙◌, arith}
use Rattle.std.proofs.lemmas.List.{length-set}
use Rattle.flow_shared.specs.States.{SeatState}
use Rattle.flux_serve.specs.declared.queues.WorkerQueue.{WorkerQueue}
use Rattle.flux_serve.specs.steps.Workers.{HasSeat}
use Rattle.flux_serve.proofs.Working.{set-below, set-all, other-default}
use Rattle.flux_serve.proofs.workers.seat_all.Goals as goal

pub loop-place-preserved : goal.loop-place-preserved
loop-place-preserved g c =
    let before = c.loop-place.invariant in
    let at = c.loop-place.place in
    let queues = c.loop-place.queues in
    let firsts = c.args.queues.now in
    let or = c.index-queues-place.result in
    let both = c.split-kept.result in
    let queue : WorkerQueue (SeatState g.row.L.Denot) g.row.K.Denot = record {
      seat = Some both.1;
      replies = (let old = slice_index_or queues at or in old.replies);
    } in
    let within : at < length queues = omega (arith, c.loop-place-test.true, before.1) in
    let P : ℕ → WorkerQueue (SeatState g.row.L.Denot) g.row.K.Denot → WorkerQueue (SeatState g.row.L.Denot) g.row.K.Denot → Type 0 = λ p none x. HasSeat c.args.shared.now x in
    let Q : ℕ → WorkerQueue (SeatState g.row.L.Denot) g.row.K.Denot → WorkerQueue (SeatState g.row.L.Denot) g.row.K.Denot → Type 0 =
    λ p none x. (let old = slice_index_or firsts p none in x.replies ≡ old.replies) in
    let own : HasSeat c.args.shared.now queue = record {
      seat = both.1;
      seat_ = refl;
      shared_ = ap (λ (r : SeatState g.row.L.Denot × SeatState g.row.L.Denot). (let s = r.1 in s.shared)) c.split-kept.ensures ∙ before.0;
    } in (
      ap (λ (r : SeatState g.row.L.Denot × SeatState g.row.L.Denot). (let s = r.0 in s.shared)) c.split-kept.ensures ∙ before.0,
      length-set queues at queue ∙ before.1,
      set-below P queues at queue within (λ none. own) before.2,
      set-all Q queues at queue within
          (λ none. before.3 at or within ∙ ap (λ (x : WorkerQueue (SeatState g.row.L.Denot) g.row.K.Denot). x.replies) (other-default firsts at or none (omega (arith, within, before.1))))
          before.3,
    )
