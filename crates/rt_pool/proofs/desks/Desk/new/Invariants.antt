use Rattle.std.specs.Prelude.{◌≡◌, All}
use Rattle.rt_pool.proofs.desks.Desk.new.Given as goal

abbrev pub invariant-loop-flow : goal.invariant-loop-flow
invariant-loop-flow g l = (l.spare.queue ≡ l.queue) × All (λ place. place.pass.queue ≡ l.queue) l.places.items
