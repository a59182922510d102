use Rattle.flow_state.proofs.states.State.stands.Goals as goal

pub returns : goal.returns
returns g c = rw (← c.self.view_is) c.stands.ensures
