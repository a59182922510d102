use Rattle.std.proofs.Common.{refl, subst}
use Rattle.flow_model.specs.declared.journals.Event.TheVariants as events
use Rattle.flow_model.specs.Setup.{Setup}
use Rattle.flow_state.specs.declared.coming.Coming.{Coming}
use Rattle.flow_state.specs.Coming.{IsComing}
use Rattle.flow_state.specs.States.{setup_at}
use Rattle.flux_audit.proofs.Checking.{first_path, same_node}
use Rattle.flux_audit.proofs.calls.check_call.Goals as goal

pub returns-then-not-same_coming : goal.returns-then-not-same_coming
returns-then-not-same_coming g c =
    let setup : Setup = setup_at g.L.Meaning.meaning c.args.state.now in
    let before = c.args.state.now.entries in
    let made = c.args.made.now in
    let comes = c.next.ensures in
    first_path setup before c.args.flow c.requires (events.Call made)
    (λ path. let t = c.if-not-same_coming.ensures.1 (comes.call made.node made.args path) in absurd cc)

pub inputs-requires : goal.inputs-requires
inputs-requires g c =
    let setup : Setup = setup_at g.L.Meaning.meaning c.args.state.now in
    let before = c.args.state.now.entries in
    let comes = c.next.ensures in
    subst (λ (x : Coming). IsComing setup before c.args.flow.0 x) (c.if-not-same_coming.ensures.0 refl) comes.is

pub check_inputs-requires-clause-node : goal.check_inputs-requires-clause-node
check_inputs-requires-clause-node g c =
    let setup : Setup = setup_at g.L.Meaning.meaning c.args.state.now in
    let before = c.args.state.now.entries in
    let inputs = c.in_ok-inputs.inputs in
    let next = c.in_ok-inputs.ensures.next in
    same_node setup before c.args.flow c.next.result inputs.node c.args.made.now.node inputs.args c.next.ensures (c.if-not-same_coming.ensures.0 refl) next.next
