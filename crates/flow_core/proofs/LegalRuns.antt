-- Every run of moves gives a legal journal, and begun calls that are next; and a core's calls are such moves.
use Rattle.std.proofs.Common.{◌≡◌, ◌⊎◌, inl, inr, ◌↔◌, ℕ, zero, suc, List, [], ◌∷◌, ◌++◌, length, map, Option, Some, None, refl, sym, ap, subst, ◌∙◌, arith}
use Rattle.std.specs.List.{slice_get, slice_set}
use Rattle.std.specs.Option.{option_flatten}
use Rattle.std.proofs.lemmas.Bool.{cases_eq}
use Rattle.std.proofs.lemmas.List.{length-map}
use Rattle.flux_values.specs.declared.answers.Answer.{Answer}
use Rattle.flux_values.specs.declared.answers.Mode.{Mode}
use Rattle.flux_values.specs.Meanings.{LibraryMeaning}
use Rattle.flux_library.specs.Libraries.{IsLawful}
use Rattle.flux_model.specs.declared.programs.Program.{Program}
use Rattle.flow_model.specs.declared.journals.CallMade.{CallMade}
use Rattle.flow_model.specs.declared.journals.Entry.{Entry}
use Rattle.flow_model.specs.declared.journals.Event.{Event}
use Rattle.flow_model.specs.declared.journals.Event.TheVariants.{Take, Wait, Call}
use Rattle.flux_model.specs.declared.items.FlowNo.{FlowNo}
use Rattle.flux_model.specs.declared.items.Item.{Item}
use Rattle.flow_model.specs.declared.journals.Key.{Key}
use Rattle.flow_model.specs.Setup.{Setup}
use Rattle.flow_model.specs.CellsAfter.{cells_after}
use Rattle.flow_model.specs.Answers.{IsNodeAnswer}
use Rattle.flow_model.specs.Events.{IsNext}
use Rattle.flow_model.specs.Waits.{StandsAt}
use Rattle.flow_model.specs.Legal.{IsLegal}
use Rattle.flux_laws.proofs.OwnEvents.{by_another}
use Rattle.flux_laws.proofs.Added.{nothing_is_legal, event_is_legal, wait_is_legal, call_is_legal}
use Rattle.flux_laws.proofs.Locks.{locks_are_there}
use Rattle.flux_laws.proofs.Untouched.{calls_stay}
use Rattle.flux_plan.specs.declared.plans.Plan.{Plan}
use Rattle.flux_cells.specs.Kept.{Kept}
use Rattle.flow_state.specs.declared.inputs.Inputs.{Inputs}
use Rattle.flow_state.specs.States.{MayRun}
use Rattle.flow_state.specs.Calls.{IsNextCall, made_of}
use Rattle.flow_state.proofs.Agreeing.{answers-agree}
use Rattle.flow_core.specs.States.{CoreState, setup_in, begun_by, opened, IsKept}
use Rattle.flow_core.specs.declared.cores.Step.TheVariants as steps
use Rattle.flow_core.specs.declared.cores.AtOnce.TheVariants as at_once
use Rattle.flow_core.specs.declared.cores.Finish.TheVariants as finishes
use Rattle.flow_state.proofs.Sets.{length-replaced}
use Rattle.flow_state.proofs.Tables.{not-both}
use Rattle.flow_core.specs.Moves.{with_entry, with_begun, MakesEvent, AddsWait, BeginsCall, FinishesCall, CallsAtOnce}
use Rattle.flow_core.specs.Laws.{IsAnswerAtBegin, IsAnswerNow, EndsCall, IsMoveOf, made_event, added_wait, begun_call, ended_call, made_call, IsRun, RunsAreLegal, StepsAreMoves, StepsAtOnceAreMoves, FinishesAreMoves, NoneLiveIsWhole}
use Rattle.flow_state.proofs.Ended.{has_ended-whole, none-all}

-- ---- the answer on the cells of now

agrees : {L : Type 0} (meaning : L → LibraryMeaning) (core : CoreState L) → IsKept meaning core
    → (flow : FlowNo) (inputs : Inputs) (answer : Answer) → begun_by core flow.0 ≡ Some inputs
    → IsAnswerAtBegin meaning core inputs answer ↔ IsAnswerNow meaning core flow inputs answer
agrees meaning core kept flow inputs answer begun =
    let call = kept.calls flow.0 inputs begun in
    answers-agree (setup_in meaning core) core.entries flow.0 inputs answer call

-- ---- what is begun

-- where one flow's call is changed, a begun call is that one, or another's as before
begun-cases : (begun : List (Option Inputs)) (k : ℕ) (call : Option Inputs) (n : ℕ) (inputs : Inputs)
    → option_flatten (slice_get (slice_set begun k call) n) ≡ Some inputs
    → ((k ≡ n) × (call ≡ Some inputs)) ⊎ ((k ≡ n → ⊥) × (option_flatten (slice_get begun n) ≡ Some inputs))
begun-cases [] k call n inputs is = absurd cc
begun-cases (own ∷ begun) zero call zero inputs is = inl (refl, is)
begun-cases (own ∷ begun) zero call (suc n) inputs is = inr (λ e. omega (arith, e), is)
begun-cases (own ∷ begun) (suc k) call zero inputs is = inr (λ e. omega (arith, e), is)
begun-cases (own ∷ begun) (suc k) call (suc n) inputs is = by (begun-cases begun k call n inputs is)
  where
    by : ((k ≡ n) × (call ≡ Some inputs)) ⊎ ((k ≡ n → ⊥) × (option_flatten (slice_get begun n) ≡ Some inputs))
        → ((suc k ≡ suc n) × (call ≡ Some inputs)) ⊎ ((suc k ≡ suc n → ⊥) ×
        (option_flatten (slice_get begun n) ≡ Some inputs))
    by (inl (same, e)) = inl (ap suc same, e)
    by (inr (apart, there)) = inr (λ e. apart (omega (arith, e)), there)

abbrev no_call : Item → Option Inputs
no_call item = None

none-begun : (items : List Item) (n : ℕ) (inputs : Inputs)
    → option_flatten (slice_get (map no_call items) n) ≡ Some inputs → ⊥
none-begun [] n inputs is = cc
none-begun (item ∷ items) zero inputs is = cc
none-begun (item ∷ items) (suc n) inputs is = none-begun items n inputs is

-- ---- one move

module _ {L : Type 0} (meaning : L → LibraryMeaning) (old : CoreState L) (kept : IsKept meaning old) (flow : FlowNo)
  where
    abbrev setup : Setup
    setup = setup_in meaning old

    abbrev more : Event → List Entry
    more event = old.entries ++ record { flow = flow; event = event } ∷ []

    -- calls of others stay begun
    others-stay : (event : Event) → IsLegal setup (more event) → (other : ℕ) → (flow.0 ≡ other → ⊥) → (inputs : Inputs)
        → IsNextCall setup old.entries other inputs → IsNextCall setup (more event) other inputs
    others-stay event legal other apart inputs begun =
        let stays = calls_stay setup kept.kinds old.entries (record { flow = flow; event = event } ∷ []) kept.sound
        kept.lawful kept.fit legal other inputs.node inputs.args begun.next (by_another flow other event apart) in
        record { next = stays.next; cells_ = begun.cells_ ∙ sym stays.cells_ }

    pub kept-entry : (event : Event) → IsLegal setup (more event)
        → ((inputs : Inputs) → begun_by old flow.0 ≡ Some inputs → ⊥) → IsKept meaning (with_entry old flow event)
    kept-entry event legal idle = record {
      lawful = kept.lawful;
      kinds = kept.kinds;
      sound = kept.sound;
      fit = kept.fit;
      few = kept.few;
      plans_ = kept.plans_;
      legal = legal;
      each = kept.each;
      calls = λ other inputs is. by other inputs is (cases_eq flow.0 other);
    }
      where
        by : (other : ℕ) (inputs : Inputs) → begun_by old other ≡ Some inputs → (flow.0 ≡ other) ⊎ (flow.0 ≡ other → ⊥)
            → IsNextCall setup (more event) other inputs
        by other inputs is (inl same) = absurd (idle inputs (ap (begun_by old) same ∙ is))
        by other inputs is (inr apart) = others-stay event legal other apart inputs (kept.calls other inputs is)

    -- a flow whose next event is none of a call has none begun
    idle-next : (event : Event) → IsNext setup old.entries flow.0 event → (inputs : Inputs)
        → begun_by old flow.0 ≡ Some inputs → ⊥
    idle-next event next inputs is = let call = kept.calls flow.0 inputs is in not-both setup old.entries flow.0 event
        inputs.node inputs.args next call.next

    pub kept-event : (event : Event) (new : CoreState L) → MakesEvent meaning old new flow event → IsKept meaning new
    kept-event event new makes =
        let may = makes.may in
        subst (IsKept meaning) (sym makes.new_) (kept-entry event
        (event_is_legal setup old.entries flow event kept.legal may) (idle-next event may.next))

    pub kept-wait : (key : Key) (mode : Mode) (new : CoreState L) → AddsWait meaning old new flow key mode
        → IsKept meaning new
    kept-wait key mode new adds =
        let may = adds.may in
        subst (IsKept meaning) (sym adds.new_) (kept-entry (Wait key mode)
        (wait_is_legal setup old.entries flow key mode kept.legal may) (idle-next (Take key mode) may.next))

    pub kept-call : (made : CallMade) (new : CoreState L) → CallsAtOnce meaning old new flow made → IsKept meaning new
    kept-call made new makes = subst (IsKept meaning) (sym makes.new_)
        (kept-entry (Call made) (call_is_legal setup old.entries flow made kept.legal makes.may) idle)
      where
        idle : (inputs : Inputs) → begun_by old flow.0 ≡ Some inputs → ⊥
        idle inputs is = let none = sym makes.idle ∙ is in cc

    pub kept-begin : (inputs : Inputs) (new : CoreState L) → BeginsCall meaning old new flow inputs → IsKept meaning new
    kept-begin inputs new begins = subst (IsKept meaning) (sym begins.new_) (record {
      lawful = kept.lawful;
      kinds = kept.kinds;
      sound = kept.sound;
      fit = kept.fit;
      few = kept.few;
      plans_ = kept.plans_;
      legal = kept.legal;
      each = length-replaced old.begun flow.0 (Some inputs) ∙ kept.each;
      calls = λ other given is. by other given (begun-cases old.begun flow.0 (Some inputs) other given is);
    })
      where
        by : (other : ℕ) (given : Inputs) → ((flow.0 ≡ other) × (Some inputs ≡ Some given)) ⊎
            ((flow.0 ≡ other → ⊥) × (begun_by old other ≡ Some given)) → IsNextCall setup old.entries other given
        by other given (inl (same, e)) = let is : inputs ≡ given =
            cc in subst (λ (n : ℕ). IsNextCall setup old.entries n given) same
            (subst (IsNextCall setup old.entries flow.0) is begins.next)
        by other given (inr (apart, is)) = kept.calls other given is

    pub kept-finish : (inputs : Inputs) (answer : Answer) (new : CoreState L)
        → EndsCall meaning old new flow inputs answer → IsKept meaning new
    kept-finish inputs answer new ends = subst (IsKept meaning) (sym ends.new_) (record {
      lawful = kept.lawful;
      kinds = kept.kinds;
      sound = kept.sound;
      fit = kept.fit;
      few = kept.few;
      plans_ = kept.plans_;
      legal = legal;
      each = length-replaced old.begun flow.0 None ∙ kept.each;
      calls = λ other given is. by other given (begun-cases old.begun flow.0 None other given is);
    })
      where
        call : IsNextCall setup old.entries flow.0 inputs
        call = kept.calls flow.0 inputs ends.begun

        now : IsAnswerAtBegin meaning old inputs answer ⊎ IsAnswerNow meaning old flow inputs answer
            → IsAnswerNow meaning old flow inputs answer
        now (inl right) = let both = agrees meaning old kept flow inputs answer ends.begun in both.0 right
        now (inr right) = right

        legal : IsLegal setup (more (Call (made_of inputs answer)))
        legal = call_is_legal setup old.entries flow (made_of inputs answer) kept.legal
            (record { next = call.next; right = now ends.right })

        by : (other : ℕ) (given : Inputs) → ((flow.0 ≡ other) × (None ≡ Some given)) ⊎
            ((flow.0 ≡ other → ⊥) × (begun_by old other ≡ Some given))
            → IsNextCall setup (more (Call (made_of inputs answer))) other given
        by other given (inl (same, e)) = absurd cc
        by other given (inr (apart, is)) = others-stay (Call (made_of inputs answer)) legal other apart given
            (kept.calls other given is)

    kept-move : (new : CoreState L) → IsMoveOf meaning old new flow → IsKept meaning new
    kept-move new (made_event event makes) = kept-event event new makes
    kept-move new (added_wait key mode adds) = kept-wait key mode new adds
    kept-move new (begun_call inputs begins) = kept-begin inputs new begins
    kept-move new (ended_call inputs answer ends) = kept-finish inputs answer new ends
    kept-move new (made_call made makes) = kept-call made new makes

-- ---- runs

pub kept-opened : {L : Type 0} (meaning : L → LibraryMeaning) (p : Program) (plans : List Plan) (items : List Item)
    (opening : Kept) (library : L) → IsLawful (meaning library)
    → MayRun (meaning library) p plans items → IsKept meaning (opened p plans items opening library)
kept-opened meaning p plans items opening library lawful may = record {
  lawful = lawful;
  kinds = may.kinds;
  sound = may.sound;
  fit = may.fit;
  few = may.few;
  plans_ = may.plans_;
  legal = let sound = may.sound in nothing_is_legal (setup_in meaning (opened p plans items opening library))
      (locks_are_there p sound.numbered sound.acyclic);
  each = length-map items no_call;
  calls = λ flow inputs is. absurd (none-begun items flow inputs is);
}

kept-run : {L : Type 0} (meaning : L → LibraryMeaning) (first : CoreState L) → IsKept meaning first
    → (states : List (CoreState L)) (last : CoreState L) → IsRun meaning first states last → IsKept meaning last
kept-run meaning first kept [] last same = subst (IsKept meaning) (sym same) kept
kept-run meaning first kept (next ∷ later) last ((flow, move), run) =
    kept-run meaning next (kept-move meaning first kept flow next move) later last run

pub runs_are_legal : {L : Type 0} (meaning : L → LibraryMeaning) → RunsAreLegal meaning
runs_are_legal meaning p plans items opening library lawful may states last run =
    let kept = kept-run meaning (opened p plans items opening library)
    (kept-opened meaning p plans items opening library lawful may) states last run in
    record { kept = kept; agree = agrees meaning last kept }

-- ---- what calls do

module _ {L : Type 0} (meaning : L → LibraryMeaning) (old new : CoreState L) (flow : FlowNo) where
  pub ends-finished : (inputs : Inputs) (answer : Answer) → FinishesCall meaning old new flow inputs answer
      → EndsCall meaning old new flow inputs answer
  ends-finished inputs answer finishes =
      let may = finishes.may in
      let setup = setup_in meaning old in
      record {
        begun = finishes.begun;
        right = inr (subst (λ (made : CallMade). IsNodeAnswer setup flow.0 (cells_after setup old.entries)
            (slice_get old.setup.program.nodes made.node.0) made) finishes.made_ may.right);
        new_ = finishes.new_ ∙ ap (λ (made : CallMade). with_begun (with_entry old flow (Call made)) flow None)
            finishes.made_;
      }

pub steps_are_moves : {L : Type 0} (meaning : L → LibraryMeaning) → StepsAreMoves meaning
steps_are_moves meaning old new flow steps.Ended (ended, same) = inl same
steps_are_moves meaning old new flow steps.Calling (begun, same) = inl same
steps_are_moves meaning old new flow (steps.Waits key holder) waited = by waited.noted
  where
    by : AddsWait meaning old new flow key waited.mode ⊎
        ((place : ℕ) × StandsAt old.entries flow.0 key waited.mode place × (new ≡ old))
        → (new ≡ old) ⊎ IsMoveOf meaning old new flow
    by (inl adds) = inr (added_wait key waited.mode adds)
    by (inr (place, stands, same)) = inl same
steps_are_moves meaning old new flow (steps.Job job) begun = inr (begun_call begun.inputs begun.begins)
steps_are_moves meaning old new flow steps.Went (event, makes) = inr (made_event event makes)

pub steps_at_once_are_moves : {L : Type 0} (meaning : L → LibraryMeaning) → StepsAtOnceAreMoves meaning
steps_at_once_are_moves meaning old new flow at_once.Ended has =
    steps_are_moves meaning old new flow steps.Ended has
steps_at_once_are_moves meaning old new flow at_once.Calling has =
    steps_are_moves meaning old new flow steps.Calling has
steps_at_once_are_moves meaning old new flow (at_once.Waits key holder) has =
    steps_are_moves meaning old new flow (steps.Waits key holder) has
steps_at_once_are_moves meaning old new flow at_once.Called (made, makes) = inr (made_call made makes)
steps_at_once_are_moves meaning old new flow at_once.Went has = steps_are_moves meaning old new flow steps.Went has

pub finishes_are_moves : {L : Type 0} (meaning : L → LibraryMeaning) → FinishesAreMoves meaning
finishes_are_moves meaning old new flow inputs answer finishes.Went finished =
    inr (ended_call inputs answer (ends-finished meaning old new flow inputs answer finished))
finishes_are_moves meaning old new flow inputs answer finishes.Late (late, same) = inl same

pub none_live_is_whole : {L : Type 0} (meaning : L → LibraryMeaning) → NoneLiveIsWhole meaning
none_live_is_whole meaning core kept none flow within =
    has_ended-whole (setup_in meaning core) core.entries kept.legal flow within
    (none-all core.entries flow (length core.setup.items) within none)
