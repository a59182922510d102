-- An answer is right by a call's inputs exactly where it is right on the cells that the entries leave.
use Rattle.std.proofs.Common.{◌≡◌, ◌↔◌, ℕ, List, Option, Some, None, sym, ap, ◌∙◌}
use Rattle.std.specs.List.{slice_get}
use Rattle.flux_values.specs.declared.values.Value.{Value}
use Rattle.flux_values.specs.declared.answers.Answer.{Answer}
use Rattle.flux_model.specs.declared.programs.Body.{Body}
use Rattle.flux_model.specs.declared.programs.Body.TheVariants.{Concrete, Abstract}
use Rattle.flux_model.specs.declared.programs.Node.{Node}
use Rattle.flux_model.specs.declared.programs.NodeNo.{NodeNo}
use Rattle.flux_model.specs.declared.items.FlowNo.{FlowNo}
use Rattle.flow_model.specs.declared.journals.Entry.{Entry}
use Rattle.flow_model.specs.Setup.{Setup}
use Rattle.flow_model.specs.Walk.{before_call}
use Rattle.flow_model.specs.CellsAfter.{cells_after}
use Rattle.flow_model.specs.Answers.{IsBodyAnswer, IsNodeAnswer}
use Rattle.flow_model.specs.Events.{CallIsNext}
use Rattle.flux_laws.specs.Calls.{cells_of_body, cells_of_node}
use Rattle.flux_laws.specs.Moves.{MayCall}
use Rattle.flow_state.specs.declared.inputs.Inputs.{Inputs}
use Rattle.flow_state.specs.Calls.{body_name, node_name, IsAnswerBy, IsAnswerOf, IsNextCall, made_of}

module _ (setup : Setup) (entries : List Entry) (flow : ℕ) (inputs : Inputs) (answer : Answer) where
  agree-body : (body : Body) → inputs.cells ≡ cells_of_body setup flow inputs.node.0 entries body
      → IsAnswerBy setup.meaning (body_name body) inputs answer ↔ IsBodyAnswer setup flow (cells_after setup entries)
      body (made_of inputs answer)
  agree-body (Concrete name) same =
      let e = ap (setup.meaning.call name inputs.args) same in
      (λ is. is ∙ e, λ is. is ∙ sym e)
  agree-body (Abstract cases) same = (λ is. is, λ is. is)

  agree-node : (node : Option Node) → inputs.cells ≡ cells_of_node setup flow inputs.node.0 entries node
      → IsAnswerBy setup.meaning (node_name node) inputs answer ↔ IsNodeAnswer setup flow (cells_after setup entries)
      node (made_of inputs answer)
  agree-node None same = (λ is. is, λ is. is)
  agree-node (Some node) same = agree-body node.body same

  pub answers-agree : IsNextCall setup entries flow inputs
      → IsAnswerOf setup.meaning setup.program inputs answer ↔ IsNodeAnswer setup flow (cells_after setup entries)
      (slice_get setup.program.nodes inputs.node.0) (made_of inputs answer)
  answers-agree call = agree-node (slice_get setup.program.nodes inputs.node.0) call.cells_

-- with the library's answer the call that comes next may be made
pub may-call : (setup : Setup) (entries : List Entry) (flow : FlowNo) (inputs : Inputs) (answer : Answer)
    → IsNextCall setup entries flow.0 inputs → IsAnswerOf setup.meaning setup.program inputs answer
    → MayCall setup entries flow (made_of inputs answer)
may-call setup entries flow inputs answer call right =
    let agree = answers-agree setup entries flow.0 inputs answer call in
    record { next = call.next; right = agree.0 right }

-- at most one call comes next
pub calls-unique : (setup : Setup) (entries : List Entry) (flow : ℕ) (one other : NodeNo) (a b : List Value)
    → CallIsNext setup entries flow one a → CallIsNext setup entries flow other b → (one ≡ other) × (a ≡ b)
calls-unique setup entries flow one other a b is there =
    let same : before_call one a ≡ before_call other b = sym is.stops ∙ there.stops in
    (cc same, cc same)
