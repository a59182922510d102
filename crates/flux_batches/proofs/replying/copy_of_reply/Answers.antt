use Rattle.std.proofs.Common.{ℕ, ◌+◌, ◌<◌, List, ◌++◌, length, drop, sym, ap, ◌∙◌, append_assoc, arith}
use Rattle.flux_batches.specs.Replies.{reply_of}
use Rattle.flux_batches.proofs.Pieces.{reply-next}
use Rattle.flux_batches.proofs.replying.copy_of_reply.Goals as goal

pub loop-entry-preserved : goal.loop-entry-preserved
loop-entry-preserved c =
    let entries = c.args.entries.now in
    let i = c.loop-entry.entry-index in
    let piece = c.emission_of.result.now in
    let rest = reply_of c.args.flow.0 (drop (i + 1) entries) in
    let below : i < length entries = omega arith in
    let next = reply-next c.args.flow.0 entries i c.entry-item.result piece below c.entry-item.is c.emission_of.ensures in
    ap (λ (l : List ℕ). l ++ rest) c.in_ok-extend_from_slice.ensures.items
    ∙ append_assoc c.loop-entry.reply.items piece rest
    ∙ ap (λ (l : List ℕ). c.loop-entry.reply.items ++ l) (sym next)
    ∙ c.loop-entry.invariant
