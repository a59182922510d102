use Rattle.std.proofs.Common.{arith}
use Rattle.flux_compile.proofs.Parts.{segments_more}
use Rattle.flux_compile.proofs.segments.segments_of.Goals as goal

pub loop-number-preserved : goal.loop-number-preserved
loop-number-preserved c =
    rw (c.in_ok-add.ensures.added, c.in_ok-segment_for.ensures, c.holds_of-holds.ensures)
    (segments_more c.args.origins.now c.args.sets.now c.args.nodes.now c.loop-number.number c.index-nodes-number.result c.loop-number.segments (omega arith) c.index-nodes-number.is c.loop-number.invariant)
