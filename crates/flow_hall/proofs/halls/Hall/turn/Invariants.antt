use Rattle.std.specs.Prelude.{◌≡◌}
use Rattle.flow_hall.proofs.halls.Hall.turn.Given as goal

abbrev pub invariant-loop : goal.invariant-loop
invariant-loop g l = l.seat.hall ≡ l.self
