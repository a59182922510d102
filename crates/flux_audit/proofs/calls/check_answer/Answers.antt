use Rattle.std.proofs.Common.{◌∙◌, refl, sym, subst}
use Rattle.flow_model.specs.declared.journals.Event.TheVariants as events
use Rattle.flow_model.specs.declared.journals.CallMade.{CallMade}
use Rattle.flow_model.specs.Setup.{Setup}
use Rattle.flow_state.specs.States.{setup_at}
use Rattle.flux_laws.specs.Moves.{MayCall}
use Rattle.flow_state.proofs.Agreeing.{may-call}
use Rattle.flux_audit.proofs.Checking.{first_answer, next_call, right_answer, same_made}
use Rattle.flux_audit.proofs.calls.check_answer.Goals as goal

pub returns-then-not-same_answer : goal.returns-then-not-same_answer
returns-then-not-same_answer g c =
    let setup : Setup = setup_at g.L.Meaning.meaning c.args.state.now in
    let before = c.args.state.now.entries in
    let made = c.args.made.now in
    let inputs = c.args.inputs.now in
    let answer = c.args.answer.now in
    let next = c.requires.next in
    let nodes = c.requires.node in
    let args = c.requires.args in
    first_answer setup before c.args.flow c.requires.flow (events.Call made) (next_call setup before c.args.flow.0 inputs made answer nodes args next.next)
    (λ told. let t = c.if-not-same_answer.ensures.1 (right_answer setup before c.args.flow.0 inputs made answer nodes args next c.requires.right told ∙ sym c.as_answer.ensures) in absurd cc)

pub answer-requires : goal.answer-requires
answer-requires g c =
    let setup : Setup = setup_at g.L.Meaning.meaning c.args.state.now in
    let before = c.args.state.now.entries in
    let made = c.args.made.now in
    let inputs = c.args.inputs.now in
    let answer = c.args.answer.now in
    let same = c.if-not-same_answer.ensures.0 refl ∙ c.as_answer.ensures in
    subst (λ (m : CallMade). MayCall setup before c.args.flow m)
    (same_made setup before c.args.flow.0 inputs made answer c.requires.node c.requires.args same)
    (may-call setup before c.args.flow inputs answer c.requires.next c.requires.right)

pub returns : goal.returns
returns g c = let adds = c.in_ok-answer.ensures.ok in adds.new_
