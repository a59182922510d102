use Rattle.flow_state.proofs.Agreeing.{may-call}
use Rattle.flow_core.specs.States.{setup_in}
use Rattle.flow_core.specs.steps.Fields.{core_of}
use Rattle.flow_core.proofs.Moved.{makes-call, call-running}
use Rattle.flow_core.proofs.fields.Fields.call.Goals as goal

pub add_call-requires : goal.add_call-requires
add_call-requires g c =
    rw c.answered-made.ensures
    (may-call (setup_in g.L.Meaning.meaning (core_of c.args.self.now)) c.args.self.now.state.entries c.args.flow
    c.in_ok-inputs.inputs c.in_ok-answer.field-0 c.in_ok-inputs.ensures.next c.in_ok-answer.ensures)

pub returns-clause-fields : goal.returns-clause-fields
returns-clause-fields g c =
    call-running g.L.Meaning.meaning c.args.self.now c.requires.fields c.args.flow c.answered-made.result
    c.requires.idle c.add_call.new.state c.in_ok-add_call.ensures.adds c.add_call.new.journal
    c.in_ok-add_call.ensures.written

pub returns-clause-ok : goal.returns-clause-ok
returns-clause-ok g c = (
  c.answered-made.result,
  makes-call g.L.Meaning.meaning c.args.self.now c.requires.fields c.args.flow c.answered-made.result
      c.requires.idle c.add_call.new.state c.in_ok-add_call.ensures.adds c.add_call.new.journal,
)
