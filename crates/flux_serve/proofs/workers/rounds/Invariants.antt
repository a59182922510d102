use Rattle.std.proofs.Common.{◌≡◌, length}
use Rattle.flux_serve.specs.steps.Workers.{KeepReplies}
use Rattle.flux_serve.proofs.workers.rounds.Given as goal

-- the rounds so far were made
abbrev pub invariant-loop : goal.invariant-loop
invariant-loop g l =
    (l.seat.shared ≡ l.shared)
    × KeepReplies g.K.Link.seen l.fn.seat.seen l.seat.seen l.fn.replies l.replies
    × (length l.replies ≡ length l.fn.replies)
