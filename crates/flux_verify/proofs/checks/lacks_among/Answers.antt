use Rattle.std.proofs.Common.{ap, ◌∙◌}
use Rattle.flux_verify.specs.steps.Checks.{lacks_at}
use Rattle.flux_verify.proofs.Checking.{lacks_here, lacks_later}
use Rattle.flux_verify.proofs.checks.lacks_among.Goals as goal

pub returns-then-lacks_at : goal.returns-then-lacks_at
returns-then-lacks_at c =
    let e = c.lacks_at.ensures ∙ ap (lacks_at c.args.segments.now c.args.takes.now) c.get.ensures in
    lacks_here c.args.segments.now c.args.takes.now c.args.nodes.now c.loop-place.place c.lacks_at.result e c.if-lacks_at.true c.loop-place.invariant

pub loop-place-preserved : goal.loop-place-preserved
loop-place-preserved c =
    let e = c.lacks_at.ensures ∙ ap (lacks_at c.args.segments.now c.args.takes.now) c.get.ensures in
    lacks_later c.args.segments.now c.args.takes.now c.args.nodes.now c.loop-place.place c.lacks_at.result e c.if-lacks_at.false c.loop-place.invariant
