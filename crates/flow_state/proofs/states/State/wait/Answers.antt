use Rattle.flow_model.specs.declared.journals.Event.TheVariants.{Take}
use Rattle.flux_laws.proofs.NextEvents.{next-item}
use Rattle.flow_state.specs.States.{setup_at}
use Rattle.flow_state.proofs.states.State.wait.Goals as goal

pub wait-requires-clause-flow : goal.wait-requires-clause-flow
wait-requires-clause-flow g c =
    let within = next-item (setup_at g.L.Meaning.meaning c.args.self.now) c.args.self.now.entries c.args.flow.0
    (Take c.args.key c.args.mode) c.requires.next in
    rw (← c.self.view_is) at within
