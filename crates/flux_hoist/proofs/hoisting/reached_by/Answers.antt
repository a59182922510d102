use Rattle.flux_hoist.proofs.Joins.{joined_then}
use Rattle.flux_hoist.proofs.hoisting.reached_by.Goals as goal

pub returns : goal.returns
returns c =
    joined_then _ c.join_holds.new.set c.join_nodes.new.set _ _
    (rw (c.new-set.ensures, c.as_slice.ensures) at c.in_ok-join_holds.ensures)
    (rw (c.as_slice-2.ensures, c.in_ok-led.ensures) at c.in_ok-join_nodes.ensures)
