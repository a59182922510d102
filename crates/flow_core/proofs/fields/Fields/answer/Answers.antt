use Rattle.flow_state.proofs.Agreeing.{may-call}
use Rattle.flow_core.specs.States.{setup_in}
use Rattle.flow_core.specs.steps.Fields.{core_of}
use Rattle.flow_core.proofs.Moved.{begun-in, finished-running}
use Rattle.flow_core.proofs.fields.Fields.answer.Goals as goal

pub add_call-requires : goal.add_call-requires
add_call-requires g c =
    rw c.in_ok-made.ensures
    (may-call (setup_in g.L.Meaning.meaning (core_of c.args.self.now)) c.args.self.now.state.entries c.args.flow
    c.args.inputs.now c.args.answer.now
    (begun-in g.L.Meaning.meaning c.args.self.now c.requires.fields c.args.flow c.args.inputs.now c.requires.begun)
    c.requires.right)

pub returns-clause-fields : goal.returns-clause-fields
returns-clause-fields g c =
    finished-running g.L.Meaning.meaning c.args.self.now c.requires.fields c.args.flow c.args.inputs.now
    c.requires.begun c.args.answer.now c.add_call.new.state (rw c.in_ok-made.ensures at c.in_ok-add_call.ensures.adds)
    c.add_call.new.journal (rw c.in_ok-made.ensures at c.in_ok-add_call.ensures.written)
