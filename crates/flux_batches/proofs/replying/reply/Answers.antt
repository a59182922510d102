use Rattle.std.proofs.Common.{ℕ, ◌+◌, ◌<◌, List, length, drop, subst, inr, ◌∙◌, arith}
use Rattle.flux_outside.proofs.Writes.{SoFar}
use Rattle.flux_batches.specs.Replies.{reply_of}
use Rattle.flux_batches.proofs.Pieces.{so_far_piece, so_far_piece_broke, reply-next}
use Rattle.flux_batches.proofs.replying.reply.Goals as goal

pub loop-entry-preserved : goal.loop-entry-preserved
loop-entry-preserved g c =
    let before = (g.K.Link.seen c.args.link.now).stream in
    let mid = (g.K.Link.seen c.loop-entry.link).stream in
    let after = (g.K.Link.seen c.send.new.link).stream in
    let bytes = reply_of c.args.flow.0 c.args.entries.now in
    let rest = reply_of c.args.flow.0 (drop (c.loop-entry.entry-index + 1) c.args.entries.now) in
    let below : c.loop-entry.entry-index < length c.args.entries.now = omega arith in
    let same = c.loop-entry.invariant.0 in
    let more = c.send.ensures.same in
    let P : List ℕ → Type 0 = SoFar before mid bytes in (
      (more.0 ∙ same.0, more.1 ∙ same.1, more.2 ∙ same.2),
      so_far_piece before mid after bytes c.emission_of.result.now rest
          (subst P (reply-next c.args.flow.0 c.args.entries.now c.loop-entry.entry-index c.entry-item.result c.emission_of.result.now below c.entry-item.is c.emission_of.ensures) c.loop-entry.invariant.1)
          c.in-Ok.ensures.wrote,
    )

pub returns-in-Err-clause-wrote : goal.returns-in-Err-clause-wrote
returns-in-Err-clause-wrote g c =
    let before = (g.K.Link.seen c.args.link.now).stream in
    let mid = (g.K.Link.seen c.loop-entry.link).stream in
    let after = (g.K.Link.seen c.send.new.link).stream in
    let bytes = reply_of c.args.flow.0 c.args.entries.now in
    let rest = reply_of c.args.flow.0 (drop (c.loop-entry.entry-index + 1) c.args.entries.now) in
    let below : c.loop-entry.entry-index < length c.args.entries.now = omega arith in
    let P : List ℕ → Type 0 = SoFar before mid bytes in
    inr (so_far_piece_broke before mid after bytes c.emission_of.result.now rest
    (subst P (reply-next c.args.flow.0 c.args.entries.now c.loop-entry.entry-index c.entry-item.result c.emission_of.result.now below c.entry-item.is c.emission_of.ensures) c.loop-entry.invariant.1)
    c.in-Err.ensures.broke)
