use Rattle.flux_laws.proofs.NextEvents.{call-item}
use Rattle.flow_state.specs.States.{setup_at}
use Rattle.flow_state.proofs.states.State.answer.Goals as goal

pub answer-requires-clause-flow : goal.answer-requires-clause-flow
answer-requires-clause-flow g c =
    let made = c.args.made.now in
    let within = call-item (setup_at g.L.Meaning.meaning c.args.self.now) c.args.self.now.entries c.args.flow.0
    made.node made.args c.requires.next in
    rw (← c.self.view_is) at within
