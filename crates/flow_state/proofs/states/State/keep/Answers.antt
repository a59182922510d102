use Rattle.flow_state.proofs.OnFields.{kept-of}
use Rattle.flow_state.proofs.states.State.keep.Goals as goal

pub returns : goal.returns
returns g c = rw (← c.self.view_is) (kept-of g.L.Meaning.meaning c.self.inside.fields c.self.invariant)
