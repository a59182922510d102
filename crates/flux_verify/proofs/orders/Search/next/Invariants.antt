use Rattle.std.proofs.Common.{◌≡◌, length}
use Rattle.flux_verify.specs.steps.Orders.{IsGround}
use Rattle.flux_verify.proofs.orders.Search.next.Given as goal

abbrev pub invariant-loop-task : goal.invariant-loop-task
invariant-loop-task l =
    let known = l.self.known in
    IsGround l.segments known.straight known.closed known.taken × (l.self.entered ≡ l.fn.self.entered)

abbrev pub decreases-loop-task : goal.decreases-loop-task
decreases-loop-task l = length l.self.tasks
