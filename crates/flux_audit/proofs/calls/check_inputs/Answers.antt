use Rattle.std.proofs.Common.{◌∙◌, refl, sym, subst}
use Rattle.flow_model.specs.declared.journals.Event.TheVariants as events
use Rattle.flow_model.specs.Setup.{Setup}
use Rattle.flow_state.specs.States.{SetupState, setup_at}
use Rattle.flow_state.specs.Calls.{IsReady, IsAnswerOf}
use Rattle.flow_state.proofs.Agreeing.{calls-unique}
use Rattle.flux_audit.proofs.Checking.{first_path}
use Rattle.flux_audit.proofs.calls.check_inputs.Goals as goal

pub returns-then-not-same_values : goal.returns-then-not-same_values
returns-then-not-same_values g c =
    let setup : Setup = setup_at g.L.Meaning.meaning c.args.state.now in
    let before = c.args.state.now.entries in
    let made = c.args.made.now in
    let inputs = c.args.inputs.now in
    let next = c.requires.next in
    first_path setup before c.args.flow c.requires.flow (events.Call made) (λ path.
    let same = calls-unique setup before c.args.flow.0 inputs.node made.node inputs.args made.args next.next path in
    let t = c.if-not-same_values.ensures.1 (c.as_slice.ensures ∙ same.1 ∙ sym c.as_slice-2.ensures) in absurd cc)

pub answer_of-requires : goal.answer_of-requires
answer_of-requires g c =
    subst (λ (s : SetupState _). IsReady (g.L.Meaning.meaning s.library) s.program c.args.inputs.now) (sym c.setup.ensures) c.requires.ready

pub check_answer-requires-clause-right : goal.check_answer-requires-clause-right
check_answer-requires-clause-right g c =
    subst (λ (s : SetupState _). IsAnswerOf (g.L.Meaning.meaning s.library) s.program c.args.inputs.now c.in_ok-answer.answer) c.setup.ensures c.in_ok-answer.ensures

pub check_answer-requires-clause-args : goal.check_answer-requires-clause-args
check_answer-requires-clause-args g c =
    sym c.as_slice.ensures ∙ c.if-not-same_values.ensures.0 refl ∙ c.as_slice-2.ensures
