use Rattle.std.proofs.Common.{◌∙◌, arith}
use Rattle.std.proofs.lemmas.List.{length-set}
use Rattle.flux_serve.proofs.Working.{begins-more, keeps-at}
use Rattle.flux_serve.proofs.workers.round.Goals as goal

pub loop-place-preserved : goal.loop-place-preserved
loop-place-preserved g c =
    let see = g.K.Link.seen in
    let before = c.loop-place.invariant in
    let at = c.loop-place.place in
    let replies = c.loop-place.replies in
    let one = c.args.seat in
    let two = c.loop-place.seat in
    let three = c.visit_open-back.result.0 in
    let visited = c.visit_open-back.ensures in (
      visited.shared,
      begins-more one.seen two.seen three.seen before.1 visited.seen,
      keeps-at see one.seen two.seen three.seen c.args.replies.now replies at c.visit_open-back.new.reply (omega (arith, c.loop-place-test.true, before.3)) before.3 visited.seen before.2
          c.index-replies-place.result visited.reply,
      length-set replies at c.visit_open-back.new.reply ∙ before.3,
    )
