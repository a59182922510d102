-- What moves leave in a core's fields.
use Rattle.std.proofs.Common.{◌≡◌, ◌<◌, inl, inr, ℕ, List, [], ◌∷◌, ◌++◌, length, get_or, Option, Some, None, refl, sym, ap, subst, ◌∙◌, arith}
use Rattle.std.specs.Option.{option_flatten}
use Rattle.std.specs.Vec.{with_item}
use Rattle.std.proofs.lemmas.Option.{slice_get_read}
use Rattle.flux_values.specs.declared.answers.Answer.{Answer}
use Rattle.flux_values.specs.declared.answers.Mode.{Mode}
use Rattle.flux_values.specs.Meanings.{LibraryMeaning}
use Rattle.flux_library.specs.Libraries.{IsLawful}
use Rattle.flux_model.specs.declared.items.FlowNo.{FlowNo}
use Rattle.flux_model.specs.declared.items.Item.{Item}
use Rattle.flux_model.specs.declared.programs.Program.{Program}
use Rattle.flux_plan.specs.declared.plans.Plan.{Plan}
use Rattle.flux_cells.specs.Kept.{Kept}
use Rattle.flow_model.specs.declared.journals.CallMade.{CallMade}
use Rattle.flow_model.specs.declared.journals.Entry.{Entry}
use Rattle.flow_model.specs.declared.journals.Event.{Event}
use Rattle.flow_model.specs.declared.journals.Event.TheVariants.{Take, Wait, Call}
use Rattle.flow_model.specs.declared.journals.Journal.{Journal}
use Rattle.flow_model.specs.declared.journals.Key.{Key}
use Rattle.flow_model.specs.Setup.{Setup}
use Rattle.flow_model.specs.Events.{IsNext}
use Rattle.flow_model.specs.Waits.{Blocks, StandsAt, IsNoWaitLast}
use Rattle.flux_laws.specs.Going.{IsBlocked}
use Rattle.flux_laws.specs.Moves.{MayStep, MayStand}
use Rattle.flux_laws.proofs.NextEvents.{call-item}
use Rattle.flux_laws.proofs.Standing.{next-unique}
use Rattle.flux_table.specs.Blockers.{IsLowestOf}
use Rattle.flow_state.specs.declared.inputs.Inputs.{Inputs}
use Rattle.flow_state.specs.States.{FlowState, MayRun}
use Rattle.flow_state.specs.Calls.{IsReady, IsNextCall, made_of}
use Rattle.flow_state.specs.Lines.{IsStanding}
use Rattle.flow_state.specs.Moves as states
use Rattle.flow_state.proofs.Fitting.{ready-of}
use Rattle.flow_state.proofs.Tables.{stands-next}
use Rattle.flow_core.specs.declared.fields.Fields.{Fields}
use Rattle.flow_core.specs.States.{CoreState, setup_in, begun_by, opened, IsKept}
use Rattle.flow_core.specs.Moves.{with_entry, with_begun, MakesEvent, AddsWait, BeginsCall, FinishesCall, CallsAtOnce, HasWaited}
use Rattle.flow_core.specs.steps.Fields.{core_of, AreFields}
use Rattle.flow_core.proofs.LegalRuns.{kept-opened, kept-event, kept-wait, kept-call, kept-begin, kept-finish, ends-finished}

-- only takes are blocked
pub free-beside : (setup : Setup) (entries : List Entry) (flow : ℕ) (event : Event) → IsNext setup entries flow event
    → ((key : Key) (mode : Mode) → event ≡ Take key mode → ⊥) → IsBlocked setup entries flow → ⊥
free-beside setup entries flow event next away (other, waits) =
    away waits.key waits.mode (next-unique setup entries flow event (Take waits.key waits.mode) next waits.next)

-- a take that no flow blocks isn't blocked
pub free-take : (setup : Setup) (entries : List Entry) (flow : ℕ) (key : Key) (mode : Mode)
    → IsNext setup entries flow (Take key mode) → ((other : ℕ) → Blocks entries other flow key mode → ⊥)
    → IsBlocked setup entries flow → ⊥
free-take setup entries flow key mode next nobody (other, waits) =
    let same : Take key mode ≡ Take waits.key waits.mode =
    next-unique setup entries flow (Take key mode) (Take waits.key waits.mode) next waits.next in
    let keys : waits.key ≡ key = cc in
    let modes : waits.mode ≡ mode = cc in
    nobody other (subst (λ (k : Key). Blocks entries other flow k mode) keys
    (subst (λ (m : Mode). Blocks entries other flow waits.key m) modes waits.blocked))

-- flows that have done nothing
pub opened-fields : {L : Type 0} (meaning : L → LibraryMeaning) (r : Fields L) (p : Program) (plans : List Plan)
    (items : List Item) (opening : Kept) (library : L) → IsLawful (meaning library)
    → MayRun (meaning library) p plans items → core_of r ≡ opened p plans items opening library
    → (let journal = r.journal in journal.entries ≡ []) → AreFields meaning r
opened-fields meaning r p plans items opening library lawful may same empty = record {
  kept = subst (IsKept meaning) (sym same) (kept-opened meaning p plans items opening library lawful may);
  written = empty ∙ sym (ap (λ (core : CoreState _). core.entries) same);
}

module _ {L : Type 0} (meaning : L → LibraryMeaning) (r : Fields L) (is : AreFields meaning r) where
  abbrev state : FlowState L
  state = r.state

  abbrev setup : Setup
  setup = setup_in meaning (core_of r)

  -- each flow has its place among the begun calls
  pub begun-place : (flow : ℕ) → flow < length state.setup.items → flow < length r.begun.items
  begun-place flow lt = let kept = is.kept in let each = kept.each in omega (arith, lt, each)

  -- what was read there
  pub begun-read : (flow : ℕ) (found : Option Inputs) → flow < length state.setup.items
      → found ≡ get_or r.begun.items flow found → begun_by (core_of r) flow ≡ found
  begun-read flow found within read = ap option_flatten
      (slice_get_read r.begun.items (length r.begun.items) flow found refl (begun-place flow within) read)

  module _ (flow : FlowNo) where
    -- the fields after an entry
    abbrev Written : FlowState L → Journal → Fields L
    Written new journal = record { state = new; journal = journal; begun = r.begun; halted = r.halted }

    core-written : (event : Event) (new : FlowState L) → new ≡ states.with_entry state flow event → (journal : Journal)
        → core_of (Written new journal) ≡ with_entry (core_of r) flow event
    core-written event new same journal =
        λ i. record (core_of r) { setup = let s = same i in s.setup; entries = let s = same i in s.entries }

    journal-written : (event : Event) (new : FlowState L) → new ≡ states.with_entry state flow event
        → (journal : Journal) → journal.entries ≡ (let old = r.journal in old.entries) ++ record {
          flow = flow;
          event = event;
        } ∷ [] → journal.entries ≡ new.entries
    journal-written event new same journal added =
        added ∙ ap (λ (es : List Entry). es ++ record { flow = flow; event = event } ∷ []) is.written
        ∙ sym (ap (λ (s : FlowState L). s.entries) same)

    -- where a move is refused, all is as it was
    pub refused : (new : FlowState L) → new ≡ state → (journal : Journal)
        → journal.entries ≡ (let old = r.journal in old.entries) → AreFields meaning (Written new journal)
    refused new same journal back = record {
      kept = subst (λ (s : FlowState L). IsKept meaning (core_of (Written s journal))) (sym same) is.kept;
      written = back ∙ is.written ∙ sym (ap (λ (s : FlowState L). s.entries) same);
    }

    pub core-refused : (new : FlowState L) → new ≡ state → (journal : Journal)
        → core_of (Written new journal) ≡ core_of r
    core-refused new same journal = ap (λ (s : FlowState L). core_of (Written s journal)) same

    -- ---- an event

    module _ (event : Event) (may : MayStep setup state.entries flow event) (new : FlowState L)
        (makes : states.Makes meaning state new flow) (journal : Journal) where
      state-made : new ≡ states.with_entry state flow event
      state-made =
          let adds = makes.adds in
          let theirs = adds.may in
          let same = next-unique setup state.entries flow.0 makes.event event theirs.next may.next in
          adds.new_ ∙ ap (states.with_entry state flow) same

      pub go-makes : MakesEvent meaning (core_of r) (core_of (Written new journal)) flow event
      go-makes = record { may = may; new_ = core-written event new state-made journal }

      pub go-running : journal.entries ≡ (let old = r.journal in old.entries) ++ record {
        flow = flow;
        event = event;
      } ∷ [] → AreFields meaning (Written new journal)
      go-running added = record {
        kept = kept-event meaning (core_of r) is.kept flow event (core_of (Written new journal)) go-makes;
        written = journal-written event new state-made journal added;
      }

    -- ---- a wait

    module _ (key : Key) (mode : Mode) (next : IsNext setup state.entries flow.0 (Take key mode)) (holder : FlowNo)
        (lowest : IsLowestOf (λ other. Blocks state.entries other flow.0 key mode) (Some holder)) where
      pub may-stand : IsNoWaitLast state.entries flow → MayStand setup state.entries flow key mode
      may-stand once = record {
        next = next;
        blocked = (holder.0, record { key = key; mode = mode; next = next; blocked = lowest.0 });
        once = once;
      }

      -- the flow waits there already
      pub stood : IsStanding state.entries flow.0 → HasWaited meaning (core_of r) (core_of r) flow key holder
      stood standing =
          let kept = is.kept in
          let e : Take key mode ≡ Take standing.key standing.mode = stands-next setup state.entries kept.legal flow.0
          (Take key mode) next standing.key standing.mode standing.place standing.stands in
          let keys : standing.key ≡ key = cc in
          let modes : standing.mode ≡ mode = cc in
          record {
            mode = mode;
            next = next;
            blocked = lowest.0;
            lowest = lowest.1;
            noted = inr (
              standing.place,
              subst (λ (x : Mode). StandsAt state.entries flow.0 key x standing.place) modes
                  (subst (λ (x : Key). StandsAt state.entries flow.0 x standing.mode standing.place) keys
                  standing.stands),
              refl,
            );
          }

      -- or it waits there now
      module _ (new : FlowState L) (adds : states.AddsWait meaning state new flow key mode) (journal : Journal) where
        wait-adds : AddsWait meaning (core_of r) (core_of (Written new journal)) flow key mode
        wait-adds = record { may = adds.may; new_ = core-written (Wait key mode) new adds.new_ journal }

        pub waited : HasWaited meaning (core_of r) (core_of (Written new journal)) flow key holder
        waited = record {
          mode = mode;
          next = next;
          blocked = lowest.0;
          lowest = lowest.1;
          noted = inl wait-adds;
        }

        pub wait-running : journal.entries ≡ (let old = r.journal in old.entries) ++ record {
          flow = flow;
          event = Wait key mode;
        } ∷ [] → AreFields meaning (Written new journal)
        wait-running added = record {
          kept = kept-wait meaning (core_of r) is.kept flow key mode (core_of (Written new journal)) wait-adds;
          written = journal-written (Wait key mode) new adds.new_ journal added;
        }

    -- ---- calls

    pub begun-in : (inputs : Inputs) → begun_by (core_of r) flow.0 ≡ Some inputs
        → IsNextCall setup state.entries flow.0 inputs
    begun-in inputs begun = let kept = is.kept in kept.calls flow.0 inputs begun

    pub begun-within : (inputs : Inputs) → IsNextCall setup state.entries flow.0 inputs
        → flow.0 < length state.setup.items
    begun-within inputs call = call-item setup state.entries flow.0 inputs.node inputs.args call.next

    pub ready : (inputs : Inputs) → IsNextCall setup state.entries flow.0 inputs
        → IsReady setup.meaning setup.program inputs
    ready inputs call =
        let kept = is.kept in
        ready-of setup kept.kinds kept.lawful kept.sound kept.fit state.entries kept.legal flow.0 inputs call

    module _ (inputs : Inputs) (idle : begun_by (core_of r) flow.0 ≡ None)
        (call : IsNextCall setup state.entries flow.0 inputs) where
      abbrev Begun : Fields L
      Begun = record {
        state = r.state;
        journal = r.journal;
        begun = with_item r.begun flow.0 (Some inputs);
        halted = r.halted;
      }

      pub begins : BeginsCall meaning (core_of r) (core_of Begun) flow inputs
      begins = record { idle = idle; next = call; new_ = refl }

      pub begun-running : AreFields meaning Begun
      begun-running = record {
        kept = kept-begin meaning (core_of r) is.kept flow inputs (core_of Begun) begins;
        written = is.written;
      }

    -- a call that is made at once
    module _ (made : CallMade) (idle : begun_by (core_of r) flow.0 ≡ None) (new : FlowState L)
        (adds : states.AddsCall meaning state new flow made) (journal : Journal) where
      pub makes-call : CallsAtOnce meaning (core_of r) (core_of (Written new journal)) flow made
      makes-call = record { idle = idle; may = adds.may; new_ = core-written (Call made) new adds.new_ journal }

      pub call-running : journal.entries ≡ (let old = r.journal in old.entries) ++ record {
        flow = flow;
        event = Call made;
      } ∷ [] → AreFields meaning (Written new journal)
      call-running added = record {
        kept = kept-call meaning (core_of r) is.kept flow made (core_of (Written new journal)) makes-call;
        written = journal-written (Call made) new adds.new_ journal added;
      }

    module _ (inputs : Inputs) (begun : begun_by (core_of r) flow.0 ≡ Some inputs) (answer : Answer)
        (new : FlowState L) (adds : states.AddsCall meaning state new flow (made_of inputs answer))
        (journal : Journal) where
      abbrev Finished : Fields L
      Finished = record {
        state = new;
        journal = journal;
        begun = with_item r.begun flow.0 None;
        halted = r.halted;
      }

      pub finishes : FinishesCall meaning (core_of r) (core_of Finished) flow inputs answer
      finishes = record {
        begun = begun;
        made = made_of inputs answer;
        made_ = refl;
        may = adds.may;
        new_ = ap (λ (core : CoreState L). with_begun core flow None)
            (core-written (Call (made_of inputs answer)) new adds.new_ journal);
      }

      pub finished-running : journal.entries ≡ (let old = r.journal in old.entries) ++ record {
        flow = flow;
        event = Call (made_of inputs answer);
      } ∷ [] → AreFields meaning Finished
      finished-running added = record {
        kept = kept-finish meaning (core_of r) is.kept flow inputs answer (core_of Finished)
            (ends-finished meaning (core_of r) (core_of Finished) flow inputs answer finishes);
        written = journal-written (Call (made_of inputs answer)) new adds.new_ journal added;
      }
