use Rattle.std.specs.Prelude.{◌≡◌, All}
use Rattle.flow_turns.specs.Workers.{HasSeat}
use Rattle.flow_turns.proofs.workers.posts.Given as goal

abbrev pub invariant-loop-worker : goal.invariant-loop-worker
invariant-loop-worker g l = (l.seat.hall ≡ l.hall) × All (HasSeat l.hall) l.posts.items
