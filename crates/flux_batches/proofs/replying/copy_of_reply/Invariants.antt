use Rattle.std.proofs.Common.{◌≡◌, ◌++◌, drop}
use Rattle.flux_batches.specs.Replies.{reply_of}
use Rattle.flux_batches.proofs.replying.copy_of_reply.Given as goal

-- what was copied, and what the other entries emit, are the reply
abbrev pub invariant-loop-entry : goal.invariant-loop-entry
invariant-loop-entry l =
    l.reply.items ++ reply_of l.flow.0 (drop l.entry-index l.entries) ≡ reply_of l.flow.0 l.entries
