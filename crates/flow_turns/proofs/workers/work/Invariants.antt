use Rattle.std.specs.Prelude.{◌≡◌}
use Rattle.flow_turns.specs.Workers.{RunsIn}
use Rattle.flow_turns.proofs.workers.work.Given as goal

abbrev pub invariant-loop : goal.invariant-loop
invariant-loop g l =
    let base = l.hall.base in (l.seat.hall ≡ l.hall) × RunsIn base.setup l.next
