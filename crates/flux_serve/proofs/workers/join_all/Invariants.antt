use Rattle.std.proofs.Common.{◌≡◌, ℕ, ◌<◌, ◌≤◌, length, slice_index_or}
use Rattle.flow_shared.specs.States.{SeatState}
use Rattle.flux_serve.specs.declared.queues.WorkerQueue.{WorkerQueue}
use Rattle.flux_serve.specs.steps.Workers.{WasJoined}
use Rattle.flux_serve.proofs.workers.join_all.Given as goal

-- the seats so far were joined, and the other queues are as they were
abbrev pub invariant-loop-place : goal.invariant-loop-place
invariant-loop-place g l =
    (l.seat.shared ≡ l.shared) × (length l.queues ≡ length l.fn.queues)
    × ((place : ℕ) (none : WorkerQueue (SeatState g.row.L.Denot) g.row.K.Denot) → place < l.place
    → WasJoined l.seat (slice_index_or l.fn.queues place none) (slice_index_or l.queues place none))
    × ((place : ℕ) (none : WorkerQueue (SeatState g.row.L.Denot) g.row.K.Denot) → l.place ≤ place → place < length l.queues
    → slice_index_or l.queues place none ≡ slice_index_or l.fn.queues place none)
