use Rattle.std.specs.Prelude.{◌≡◌}
use Rattle.flow_shared.proofs.shared.Shared.turn.Given as goal

abbrev pub invariant-loop : goal.invariant-loop
invariant-loop g l =
    (l.seat.shared ≡ l.self) × (l.seat.shared ≡ l.fn.seat.shared) × (l.seat.seen ≡ l.fn.seat.seen)
    × (l.seat.places ≡ l.fn.seat.places)
