use Rattle.std.proofs.Common.{arith}
use Rattle.flux_verify.proofs.Visiting.{reaching_begun, reaching_more, reaching_all}
use Rattle.flux_verify.proofs.reaching.reach.Goals as goal

pub loop-place-init : goal.loop-place-init
loop-place-init c = rw (c.in_ok-add_all.ensures, c.new-visits.ensures) (reaching_begun c.args.segments.now c.args.starts.now)

pub loop-place-preserved : goal.loop-place-preserved
loop-place-preserved c =
    rw c.in_ok-visit_from.ensures
    (reaching_more c.args.segments.now c.args.starts.now c.loop-place.visits c.loop-place.place (omega (arith, c.loop-place-test.true, c.len.ensures)) c.loop-place.invariant)

pub returns : goal.returns
returns c = reaching_all c.args.segments.now c.args.starts.now c.loop-place.visits c.loop-place.place (omega (arith, c.loop-place-test.false, c.len.ensures)) c.loop-place.invariant
