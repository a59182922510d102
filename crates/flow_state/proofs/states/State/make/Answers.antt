use Rattle.flux_laws.proofs.NextEvents.{next-item}
use Rattle.flow_state.specs.States.{setup_at}
use Rattle.flow_state.proofs.states.State.make.Goals as goal

pub make-requires-clause-flow : goal.make-requires-clause-flow
make-requires-clause-flow g c =
    let may = c.requires.may.may in
    let within = next-item (setup_at g.L.Meaning.meaning c.args.self.now) c.args.self.now.entries c.args.flow.0
    c.requires.may.event may.next in
    rw (← c.self.view_is) at within
