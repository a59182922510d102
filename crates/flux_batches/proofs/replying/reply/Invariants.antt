use Rattle.std.proofs.Common.{drop}
use Rattle.flux_outside.proofs.Writes.{SoFar}
use Rattle.flux_doors.specs.Seen.{IsUnread}
use Rattle.flux_batches.specs.Replies.{reply_of}
use Rattle.flux_batches.proofs.replying.reply.Given as goal

-- what the entries so far emit was written, and nothing of the link was read
abbrev pub invariant-loop-entry : goal.invariant-loop-entry
invariant-loop-entry g l =
    IsUnread (g.K.Link.seen l.fn.link) (g.K.Link.seen l.link)
    × SoFar (g.K.Link.seen l.fn.link).stream (g.K.Link.seen l.link).stream (reply_of l.flow.0 l.entries) (reply_of l.flow.0 (drop l.entry-index l.entries))
