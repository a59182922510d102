use Rattle.std.proofs.Common.{◌≡◌, ℕ, ◌<◌, length, slice_index_or}
use Rattle.flow_shared.specs.States.{SeatState}
use Rattle.flux_serve.specs.declared.queues.WorkerQueue.{WorkerQueue}
use Rattle.flux_serve.specs.steps.Workers.{HasSeat}
use Rattle.flux_serve.proofs.workers.seat_all.Given as goal

-- the queues so far have seats
abbrev pub invariant-loop-place : goal.invariant-loop-place
invariant-loop-place g l =
    (l.seat.shared ≡ l.shared) × (length l.queues ≡ length l.fn.queues)
    × ((place : ℕ) (none : WorkerQueue (SeatState g.row.L.Denot) g.row.K.Denot) → place < l.place → HasSeat l.shared (slice_index_or l.queues place none))
    × ((place : ℕ) (none : WorkerQueue (SeatState g.row.L.Denot) g.row.K.Denot) → place < length l.queues
    → (let old = slice_index_or l.fn.queues place none in let new = slice_index_or l.queues place none in new.replies ≡ old.replies))
