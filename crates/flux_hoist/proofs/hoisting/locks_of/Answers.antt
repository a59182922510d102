use Rattle.flux_hoist.proofs.Hoists.{hoisted_none, hoisted_some}
use Rattle.flux_hoist.proofs.hoisting.locks_of.Goals as goal

pub returns-in_default : goal.returns-in_default
returns-in_default c =
    hoisted_none _ _ c.join_holds.new.set (rw (c.new-locks.ensures, c.as_slice.ensures) at c.in_ok-join_holds.ensures) c.in_default.ensures

pub returns : goal.returns
returns c =
    hoisted_some _ _ c.join_holds.new.set c.join_members.new.set c.in_ok-lower.lower c.join_holds-2.new.set c.in-Some.greatest
    (rw (c.new-locks.ensures, c.as_slice.ensures) at c.in_ok-join_holds.ensures)
    c.in-Some.ensures
    (rw c.new-below.ensures at c.in_ok-join_members.ensures)
    c.in_ok-lower.ensures.lower
    (rw c.as_slice-2.ensures.same at c.in_ok-join_holds-2.ensures)
