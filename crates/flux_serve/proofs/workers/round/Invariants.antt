use Rattle.std.proofs.Common.{◌≡◌, length}
use Rattle.flow_shared.specs.Journals.{BeginsWith}
use Rattle.flux_serve.specs.steps.Workers.{KeepReplies}
use Rattle.flux_serve.proofs.workers.round.Given as goal

-- the links so far were visited
abbrev pub invariant-loop-place : goal.invariant-loop-place
invariant-loop-place g l =
    (l.seat.shared ≡ l.shared) × BeginsWith l.seat.seen l.fn.seat.seen
    × KeepReplies g.K.Link.seen l.fn.seat.seen l.seat.seen l.fn.replies l.replies
    × (length l.replies ≡ length l.fn.replies)
