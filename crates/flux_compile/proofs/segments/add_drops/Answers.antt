use Rattle.std.proofs.lemmas.Iterator.Adapters.{YieldsList-from_rev_slice}
use Rattle.std.proofs.lemmas.Iterator.Consumers.{YieldsList-end}
use Rattle.flux_compile.proofs.segments.add_drops.Goals as goal

pub returns : goal.returns
returns c =
    let end = YieldsList-end (YieldsList-from_rev_slice c.args.holds.now cc) c.loop-hold.yielded _ c.loop-hold.yielded_by _ _ c.in-None.is c.next.ensures.steps in
    rw (← end.0) c.loop-hold.invariant
