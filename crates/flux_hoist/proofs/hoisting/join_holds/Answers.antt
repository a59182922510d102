use Rattle.std.proofs.Common.{arith}
use Rattle.flux_hoist.proofs.Joins.{joined_more}
use Rattle.flux_hoist.proofs.hoisting.join_holds.Goals as goal

pub loop-hold-preserved : goal.loop-hold-preserved
loop-hold-preserved c =
    joined_more c.args.holds.now c.loop-hold.hold-index _ c.args.set.now c.loop-hold.set c.join.new.self (omega arith) c.loop-hold.invariant c.join.ensures.rising c.in_ok-join.ensures.joined
