use Rattle.flux_constraints.proofs.Joins.{insert_joined}
use Rattle.flux_constraints.proofs.sets.ClassSet.join.Goals as goal

pub returns-in_ok-insert-in-Err-clause-joined : goal.returns-in_ok-insert-in-Err-clause-joined
returns-in_ok-insert-in-Err-clause-joined c =
    rw (← c.self.view_is, c.in_ok-insert-in-Err.ensures.items) (insert_joined c.self.inside.holds.items c.in-Err.place c.args.hold)
