use Rattle.std.proofs.Common.{length}
use Rattle.flux_outside.proofs.Writes.{SoFar}
use Rattle.flux_doors.specs.Seen.{IsUnread}
use Rattle.flux_batches.proofs.replying.send.Given as goal

-- a front was written, and nothing of the link was read
abbrev pub invariant-loop-rest : goal.invariant-loop-rest
invariant-loop-rest g l =
    IsUnread (g.K.Link.seen l.fn.link) (g.K.Link.seen l.link)
    × SoFar (g.K.Link.seen l.fn.link).stream (g.K.Link.seen l.link).stream l.bytes l.rest

abbrev pub decreases-loop-rest : goal.decreases-loop-rest
decreases-loop-rest g l = length l.rest
