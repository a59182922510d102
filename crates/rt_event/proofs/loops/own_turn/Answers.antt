use Rattle.flow_core.specs.States.{setup_in}
use Rattle.rt_event.proofs.Ends.{went-own}
use Rattle.rt_event.proofs.loops.own_turn.Goals as goal

pub returns-in-Went-clause-ok : goal.returns-in-Went-clause-ok
returns-in-Went-clause-ok g c =
    λ live awake. went-own (setup_in g.L.Meaning.meaning c.args.core.now) c.args.core.now.entries
    c.take_turn.new.core.entries c.args.owner c.last_is_end.result
    (c.last_is_end.ensures c.args.core.now.entries c.args.owner)
    (rw c.in-Went.is at c.in_ok-take_turn.ensures.ok)
