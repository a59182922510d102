use Rattle.flow_state.proofs.OnFields.{kept-of}
use Rattle.flow_state.proofs.states.State.into_parts.Goals as goal

pub returns-clause-kept : goal.returns-clause-kept
returns-clause-kept g c = rw (← c.self.view_is) (kept-of g.L.Meaning.meaning c.self.inside.fields c.self.invariant)
