use Rattle.flux_constraints.proofs.Uppers.{filter_rising, filter_up_to}
use Rattle.flux_constraints.specs.steps.Places.{is_up_to}
use Rattle.flux_constraints.proofs.sets.ClassSet.up_to.Goals as goal

pub invariant_of-result : goal.invariant_of-result
invariant_of-result c = rw (c.in_ok-copy_up_to.ensures, c.deref.ensures.value) (filter_rising (is_up_to c.args.class) c.self.inside.holds.items c.self.invariant)

pub returns-clause-rising : goal.returns-clause-rising
returns-clause-rising c = rw (c.in_ok-copy_up_to.ensures, c.deref.ensures.value) (filter_rising (is_up_to c.args.class) c.self.inside.holds.items c.self.invariant)

pub returns-clause-lower : goal.returns-clause-lower
returns-clause-lower c = rw (← c.self.view_is, c.in_ok-copy_up_to.ensures, c.deref.ensures.value) (filter_up_to c.args.class c.self.inside.holds.items)
