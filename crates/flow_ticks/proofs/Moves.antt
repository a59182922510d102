-- What a flow does next: an event of its walk, or a call; not both, and nothing after its end.
use Rattle.std.proofs.Common.{◌≡◌, ◌<◌, ◌⊎◌, inl, inr, ℕ, zero, suc, List, [], ◌∷◌, ◌++◌, length, Option, Some, None, refl, sym, ap, subst, ◌∙◌, arith}
use Rattle.std.specs.List.{flat_map, slice_get}
use Rattle.std.proofs.lemmas.List.{length-append}
use Rattle.flux_values.specs.declared.values.Value.{Value}
use Rattle.flux_values.specs.declared.answers.Mode.{Mode}
use Rattle.flux_model.specs.declared.programs.Node.{Node}
use Rattle.flux_model.specs.declared.programs.NodeNo.{NodeNo}
use Rattle.flux_model.specs.declared.programs.Body.{Body}
use Rattle.flux_model.specs.declared.programs.Body.TheVariants.{Concrete, Abstract}
use Rattle.flux_model.specs.declared.items.FlowNo.{FlowNo}
use Rattle.flow_model.specs.declared.journals.CallMade.{CallMade}
use Rattle.flow_model.specs.declared.journals.Key.{Key}
use Rattle.flow_model.specs.declared.journals.Event.{Event}
use Rattle.flow_model.specs.declared.journals.Event.TheVariants.{Take, Wait, Enter, Choose, Call, Exit, Drop, End}
use Rattle.flow_model.specs.declared.journals.Entry.{Entry}
use Rattle.flow_model.specs.Setup.{Setup}
use Rattle.flow_model.specs.Walk.{before_call}
use Rattle.flow_model.specs.Flows.{flow_walk, flow_events, HasEnded}
use Rattle.flow_model.specs.Answers.{cells_for, IsBodyAnswer, IsNodeAnswer}
use Rattle.flow_model.specs.Events.{unless_wait, answer_in, events_by, own_events, IsNext, CallIsNext, IsWholePath}
use Rattle.flux_laws.specs.Going.{IsBlocked, IsAtCall}
use Rattle.flux_laws.specs.Moves.{IsMove, MayStep, MayCall}

module _ (setup : Setup) (entries : List Entry) (flow : ℕ) where
  pub not-both : (event : Event) (node : NodeNo) (args : List Value) → IsNext setup entries flow event → CallIsNext setup entries flow node args → ⊥
  not-both event node args next call =
      let same : own_events entries flow ≡ own_events entries flow ++ event ∷ next.rest = sym call.all ∙ next.next in
      let lengths = ap length same ∙ length-append (own_events entries flow) (event ∷ next.rest) in
      omega (arith, lengths)

  pub blocked-no_call : IsBlocked setup entries flow → IsAtCall setup entries flow → ⊥
  blocked-no_call (other, waits) (node, args, call) = not-both (Take waits.key waits.mode) node args waits.next call

  pub one-call : (node other : NodeNo) (args their : List Value) → CallIsNext setup entries flow node args → CallIsNext setup entries flow other their → (node ≡ other) × (args ≡ their)
  one-call node other args their a b = let same : before_call node args ≡ before_call other their = sym a.stops ∙ b.stops in (cc, cc)

  pub whole-no_next : IsWholePath setup entries flow → (event : Event) → IsNext setup entries flow event → ⊥
  whole-no_next whole event next =
      let same : own_events entries flow ≡ own_events entries flow ++ event ∷ next.rest = whole.all ∙ next.next in
      let lengths = ap length same ∙ length-append (own_events entries flow) (event ∷ next.rest) in
      omega (arith, lengths)

  pub whole-no_call : IsWholePath setup entries flow → (node : NodeNo) (args : List Value) → CallIsNext setup entries flow node args → ⊥
  whole-no_call whole node args call = subst HasEnded call.stops whole.finished

-- where a flow has the same events the same call is next
pub call-same : (setup : Setup) (entries other : List Entry) (flow : ℕ) (node : NodeNo) (args : List Value) → events_by flow entries ≡ events_by flow other → CallIsNext setup entries flow node args → CallIsNext setup other flow node args
call-same setup entries other flow node args same call = record {
  all = subst (λ (list : List Event). flow_events setup flow (flat_map answer_in list) ≡ flat_map unless_wait list) same call.all;
  stops = subst (λ (list : List Event). (let walked = flow_walk setup flow (flat_map answer_in list) in walked.stop ≡ before_call node args)) same call.stops;
}

-- ---- a move that is no wait is a call, or an event of the walk

abbrev pub IsOther : Event → Type 0
IsOther event = (made : CallMade) → event ≡ Call made → ⊥

abbrev pub IsEither : Setup → List Entry → FlowNo → Event → Type 0
IsEither setup entries flow event = ((made : CallMade) × (event ≡ Call made) × MayCall setup entries flow made) ⊎ (IsOther event × MayStep setup entries flow event)

pub either-move : (setup : Setup) (entries : List Entry) (flow : FlowNo) (event : Event) → ((key : Key) (mode : Mode) → event ≡ Wait key mode → ⊥) → IsMove setup entries flow event → IsEither setup entries flow event
either-move setup entries flow (Wait key mode) no_wait move = absurd (no_wait key mode refl)
either-move setup entries flow (Call made) no_wait move = inl (made, refl, move)
either-move setup entries flow (Take key mode) no_wait move = inr (λ made e. absurd cc, move)
either-move setup entries flow (Enter node) no_wait move = inr (λ made e. absurd cc, move)
either-move setup entries flow (Choose place) no_wait move = inr (λ made e. absurd cc, move)
either-move setup entries flow (Exit node outcome) no_wait move = inr (λ made e. absurd cc, move)
either-move setup entries flow (Drop key) no_wait move = inr (λ made e. absurd cc, move)
either-move setup entries flow (End outcome) no_wait move = inr (λ made e. absurd cc, move)

pub whole-no_move : (setup : Setup) (entries : List Entry) (flow : FlowNo) (event : Event) → IsWholePath setup entries flow.0 → IsEither setup entries flow event → ⊥
whole-no_move setup entries flow event whole (inl (made, is, may)) = whole-no_call setup entries flow.0 whole made.node made.args may.next
whole-no_move setup entries flow event whole (inr (other, may)) = whole-no_next setup entries flow.0 whole event may.next

-- ---- a call has one answer

pub one-answer : (setup : Setup) (flow : ℕ) (cells : _) (made other : CallMade) → made.node ≡ other.node → made.args ≡ other.args → IsNodeAnswer setup flow cells (slice_get setup.program.nodes made.node.0) made
    → IsNodeAnswer setup flow cells (slice_get setup.program.nodes other.node.0) other → made ≡ other
one-answer setup flow cells made other node args right their = by (slice_get setup.program.nodes made.node.0) right (subst (λ (n : NodeNo). IsNodeAnswer setup flow cells (slice_get setup.program.nodes n.0) other) (sym node) their)
  where
    same : made.answer ≡ other.answer → made ≡ other
    same answer = λ i. record { node = node i; args = args i; answer = answer i }

    on : (body : Body) → IsBodyAnswer setup flow cells body made → IsBodyAnswer setup flow cells body other → made ≡ other
    on (Concrete name) own they =
        same (own ∙ (λ i. setup.meaning.call name (args i) (cells_for setup flow (node i).0 cells (setup.meaning.node name))) ∙ sym they)
    on (Abstract cases) own they = absurd own

    by : (found : Option Node) → IsNodeAnswer setup flow cells found made → IsNodeAnswer setup flow cells found other → made ≡ other
    by None own they = absurd own
    by (Some n) own they = on n.body own they

within : (nodes : List Node) (number : ℕ) → (n : Node) × (slice_get nodes number ≡ Some n) → number < length nodes
within [] number (n, at) = absurd cc
within (x ∷ nodes) zero (n, at) = omega arith
within (x ∷ nodes) (suc number) (n, at) = let lt = within nodes number (n, at) in omega (arith, lt)

-- it is of a node of the program
pub call-node : (setup : Setup) (flow : ℕ) (cells : _) (made : CallMade) → IsNodeAnswer setup flow cells (slice_get setup.program.nodes made.node.0) made → made.node.0 < length setup.program.nodes
call-node setup flow cells made right = within setup.program.nodes made.node.0 (some (slice_get setup.program.nodes made.node.0) refl right)
  where
    some : (found : Option Node) → slice_get setup.program.nodes made.node.0 ≡ found → IsNodeAnswer setup flow cells found made → (n : Node) × (slice_get setup.program.nodes made.node.0 ≡ Some n)
    some None e own = absurd own
    some (Some n) e own = (n, e)
