use Rattle.std.proofs.Common.{◌≡◌, All, vec_len}
use Rattle.flux_serve.specs.steps.PendingReplies.{IsEmptyQueue}
use Rattle.flux_serve.proofs.queues.empty_queues.Given as goal

-- so many queues
abbrev pub invariant-loop : goal.invariant-loop
invariant-loop g l = (vec_len l.queues ≡ l.counter) × All (IsEmptyQueue l.room) l.queues.items
