use Rattle.std.proofs.Common.{◌∙◌}
use Rattle.std.proofs.lemmas.List.{take_rest}
use Rattle.flux_outside.proofs.Writes.{so_far_more}
use Rattle.flux_batches.proofs.replying.send.Goals as goal

pub loop-rest-preserved : goal.loop-rest-preserved
loop-rest-preserved g c =
    let rest = c.loop-rest.rest.now in
    let n = c.in_ok-count.count in
    let same = c.loop-rest.invariant.0 in
    let more = c.write.ensures.same in (
      (more.0 ∙ same.0, more.1 ∙ same.1, more.2 ∙ same.2),
      rw (take_rest rest n)
          (so_far_more (g.K.Link.seen c.args.link.now).stream (g.K.Link.seen c.loop-rest.link).stream (g.K.Link.seen c.write.new.self).stream
          c.args.bytes.now rest n c.loop-rest.invariant.1 c.in_ok-count.ensures.bytes c.in_ok-count.ensures.cause.steady),
    )
