use Rattle.std.proofs.Common.{refl, ◌∙◌}
use Rattle.flux_serve.proofs.Working.{begins-same, keeps-then, keep-all-none}
use Rattle.flux_serve.proofs.workers.rounds.Goals as goal

pub loop-init : goal.loop-init
loop-init g c =
    let see = g.K.Link.seen in
    let first = c.args.seat in
    (c.requires, keep-all-none see first.seen first.seen c.args.replies.now (begins-same first.seen), refl)

pub loop-preserved-in-Went : goal.loop-preserved-in-Went
loop-preserved-in-Went g c =
    let see = g.K.Link.seen in
    let before = c.loop.invariant in
    let one = c.args.seat in
    let two = c.loop.seat in
    let three = c.round-back.result.0 in (
      c.round-back.ensures.shared,
      keeps-then see one.seen two.seen three.seen c.args.replies.now c.loop.replies c.round-back.new.replies before.2 before.1 c.round-back.ensures.replies,
      c.round-back.auto.replies ∙ before.2,
    )

pub loop-preserved : goal.loop-preserved
loop-preserved g c =
    let see = g.K.Link.seen in
    let before = c.loop.invariant in
    let one = c.args.seat in
    let two = c.loop.seat in
    let three = c.round-back.result.0 in (
      c.round-back.ensures.shared,
      keeps-then see one.seen two.seen three.seen c.args.replies.now c.loop.replies c.round-back.new.replies before.2 before.1 c.round-back.ensures.replies,
      c.round-back.auto.replies ∙ before.2,
    )

pub returns-in-Ended-clause-replies : goal.returns-in-Ended-clause-replies
returns-in-Ended-clause-replies g c =
    let see = g.K.Link.seen in
    let before = c.loop.invariant in
    let one = c.args.seat in
    let two = c.loop.seat in
    let three = c.round-back.result.0 in
    keeps-then see one.seen two.seen three.seen c.args.replies.now c.loop.replies c.round-back.new.replies before.2 before.1 c.round-back.ensures.replies
