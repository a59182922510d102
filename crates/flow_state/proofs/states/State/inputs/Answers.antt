use Rattle.flux_laws.proofs.NextEvents.{call-item}
use Rattle.flow_state.specs.States.{setup_at}
use Rattle.flow_state.proofs.states.State.inputs.Goals as goal

pub inputs-requires-clause-flow : goal.inputs-requires-clause-flow
inputs-requires-clause-flow g c =
    let (args, call) = c.requires in
    let within = call-item (setup_at g.L.Meaning.meaning c.args.self.now) c.args.self.now.entries c.args.flow.0
    c.args.node args call in
    rw (← c.self.view_is) at within
