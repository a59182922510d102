-- What comes next at a flow's place, as its calls tell it.
use Rattle.std.proofs.Common.{◌≡◌, ◌<◌, ◌⊎◌, inl, inr, ℕ, true, false, List, length, Option, Some, refl, sym, ap, subst, ◌∙◌}
use Rattle.flux_values.specs.declared.answers.Mode.{Mode}
use Rattle.flux_values.specs.declared.values.Value.{Value}
use Rattle.flux_values.specs.Meanings.{LibraryMeaning}
use Rattle.flux_model.specs.declared.programs.ClassNo.{ClassNo}
use Rattle.flux_model.specs.declared.programs.NodeNo.{NodeNo}
use Rattle.flux_model.specs.declared.items.FlowNo.{FlowNo}
use Rattle.flow_model.specs.declared.journals.Key.{Key}
use Rattle.flow_model.specs.declared.journals.Entry.{Entry}
use Rattle.flow_model.specs.declared.journals.Event.{Event}
use Rattle.flow_model.specs.declared.journals.Event.TheVariants.{Take, Enter, Choose, Exit, Drop, End}
use Rattle.flow_model.specs.Setup.{Setup, item_of}
use Rattle.flow_model.specs.CellsAfter.{key_for}
use Rattle.flow_model.specs.Events.{IsNext, CallIsNext}
use Rattle.flow_model.specs.Waits.{Blocks}
use Rattle.flow_model.specs.Legal.{IsLegal}
use Rattle.flux_laws.specs.Growth.{has_ended}
use Rattle.flux_laws.specs.Going.{IsBlocked, IsAtCall}
use Rattle.flux_plan.specs.declared.locals.Next.{Next}
use Rattle.flux_plan.specs.declared.locals.Next.TheVariants as nexts
use Rattle.flux_plan.specs.Machine.{values_at}
use Rattle.flux_table.specs.Tables.{holders_of, lines_of}
use Rattle.flux_table.specs.Blockers as table
use Rattle.flux_table.specs.Blockers.{MayTake, IsLowestOf}
use Rattle.flux_laws.proofs.Standing.{next-unique}
use Rattle.flux_cells.specs.Kept.{cells_of}
use Rattle.flow_state.specs.declared.places.Place.{Place}
use Rattle.flow_state.specs.declared.fields.Fields.{Fields}
use Rattle.flow_state.specs.declared.coming.Coming.{Coming}
use Rattle.flow_state.specs.declared.coming.Coming.TheVariants as comings
use Rattle.flow_state.specs.States.{setup_at}
use Rattle.flow_state.specs.Coming.{event_of, IsComing, Comes}
use Rattle.flow_state.specs.steps.Places.{key_in, IsPlaceOf, event_for, IsEventComing}
use Rattle.flow_state.specs.steps.Places as places
use Rattle.flow_state.specs.steps.Fields.{state_of, plans_of, AreFields}
use Rattle.flow_state.proofs.Tables.{not-both, lowest-blocks, may-take}
use Rattle.flow_state.proofs.Ended.{next-goes_on, call-goes_on, not-true}
use Rattle.flow_state.proofs.Agreeing.{calls-unique}
use Rattle.flow_state.proofs.AtPlaces.{place-key_for, place-ended}
use Rattle.flow_state.proofs.Moved.{here, coming-there, event-next, call-next, not-blocked}

-- what comes next is an event, a call, or nothing
abbrev pub IsSort : (ClassNo → Key) → Next → Type 0
IsSort key next = ((event : Event) × (event_for key next ≡ Some event)) ⊎
    (((node : NodeNo) × (next ≡ nexts.Call node)) ⊎ (next ≡ nexts.Ended))

sort-of : (key : ClassNo → Key) (next : Next) → IsSort key next
sort-of key (nexts.Take class mode) = inl (Take (key class) mode, refl)
sort-of key (nexts.Enter node) = inl (Enter node, refl)
sort-of key (nexts.Choose number) = inl (Choose number, refl)
sort-of key (nexts.Call node) = inr (inl (node, refl))
sort-of key (nexts.Exit node outcome) = inl (Exit node outcome, refl)
sort-of key (nexts.Drop class) = inl (Drop (key class), refl)
sort-of key (nexts.End outcome) = inl (End outcome, refl)
sort-of key nexts.Ended = inr (inr refl)

-- only takes give takes
take-of : (key : ClassNo → Key) (next : Next) (k : Key) (mode : Mode) → event_for key next ≡ Some (Take k mode)
    → (class : ClassNo) × (next ≡ nexts.Take class mode)
take-of key (nexts.Take class own) k mode e = let same : Take (key class) own ≡ Take k mode =
    cc in (class, ap (nexts.Take class) (cc same))
take-of key (nexts.Enter node) k mode e = absurd cc
take-of key (nexts.Choose number) k mode e = absurd cc
take-of key (nexts.Call node) k mode e = absurd cc
take-of key (nexts.Exit node outcome) k mode e = absurd cc
take-of key (nexts.Drop class) k mode e = absurd cc
take-of key (nexts.End outcome) k mode e = absurd cc
take-of key nexts.Ended k mode e = absurd cc

module _ {L : Type 0} (meaning : L → LibraryMeaning) (r : Fields L) (is : AreFields meaning r) (flow : FlowNo)
    (within : (let setup = setup_at meaning (state_of r) in flow.0 < length setup.items)) where
  abbrev setup : Setup
  setup = setup_at meaning (state_of r)

  abbrev entries : List Entry
  entries = r.made

  abbrev items : List Place
  items = let places = r.places in places.items

  legal : IsLegal setup entries
  legal = let after = is.after in after.legal

  module _ (next : Next) (coming : places.IsComing setup (plans_of r) items flow.0 next) where
    abbrev place : Place
    place = coming.place

    abbrev keys : ClassNo → Key
    keys = key_in setup.program place.session

    abbrev own : IsPlaceOf setup (plans_of r) entries flow.0 place
    own = here setup (plans_of r) is.given entries items r.table (cells_of r.cells) is.after flow place coming.is_place

    pub event-is_next : (event : Event) → event_for keys next ≡ Some event → IsNext setup entries flow.0 event
    event-is_next event e = event-next setup (plans_of r) is.given entries items r.table (cells_of r.cells) is.after
        flow event (record { next = next; coming = coming; event_ = e })

    pub call-is_next : (node : NodeNo) → next ≡ nexts.Call node
        → CallIsNext setup entries flow.0 node (values_at place.local)
    call-is_next node e = call-at (record {
      place = place;
      is_place = coming.is_place;
      plan = coming.plan;
      is_plan = coming.is_plan;
      coming = coming.coming ∙ ap Some e;
    })
      where
        call-at : (c : places.IsComing setup (plans_of r) items flow.0 (nexts.Call node))
            → let p = c.place in CallIsNext setup entries flow.0 node (values_at p.local)
        call-at c = call-next setup (plans_of r) is.given entries items r.table (cells_of r.cells) is.after flow node c

    pub ended-is : next ≡ nexts.Ended → has_ended entries flow.0 ≡ true
    ended-is e = place-ended setup (plans_of r) entries legal flow.0 place own next
        (coming-there setup (plans_of r) is.given entries items r.table (cells_of r.cells) is.after flow next coming) e

    -- ---- the three sorts

    pub not-at_call : ((node : NodeNo) → next ≡ nexts.Call node → ⊥) → IsAtCall setup entries flow.0 → ⊥
    not-at_call away (node, args, call) = by (sort-of keys next)
      where
        by : IsSort keys next → ⊥
        by (inl (event, e)) = not-both setup entries flow.0 event node args (event-is_next event e) call
        by (inr (inl (other, e))) = away other e
        by (inr (inr e)) = call-goes_on setup entries legal flow.0 within node args call (ended-is e)

    pub not-ended : (next ≡ nexts.Ended → ⊥) → false ≡ has_ended entries flow.0
    not-ended away = sym (not-true (has_ended entries flow.0) (by (sort-of keys next)))
      where
        by : IsSort keys next → has_ended entries flow.0 ≡ true → ⊥
        by (inl (event, e)) = next-goes_on setup entries legal flow.0 within event (event-is_next event e)
        by (inr (inl (node, e))) = call-goes_on setup entries legal flow.0 within node (values_at place.local)
            (call-is_next node e)
        by (inr (inr e)) = absurd (away e)

    pub not-taking : ((class : ClassNo) (mode : Mode) → next ≡ nexts.Take class mode → ⊥)
        → IsBlocked setup entries flow.0 → ⊥
    not-taking away (other, waits) = by (sort-of keys next)
      where
        by : IsSort keys next → ⊥
        by (inl (event, e)) = not-blocked setup (plans_of r) is.given entries items r.table (cells_of r.cells) is.after
            flow event (event-is_next event e)
            (λ key mode same. let (class, is_take) = take-of keys next key mode (e ∙ ap Some same) in away class mode
            is_take) (other, waits)
        by (inr (inl (node, e))) = not-both setup entries flow.0 (Take waits.key waits.mode) node
            (values_at place.local) waits.next (call-is_next node e)
        by (inr (inr e)) = next-goes_on setup entries legal flow.0 within (Take waits.key waits.mode) waits.next
            (ended-is e)

    -- the flow's next event is the one that comes there
    pub event-coming : (event : Event) → IsNext setup entries flow.0 event
        → IsEventComing setup (plans_of r) items flow.0 event
    event-coming event there = record { next = next; coming = coming; event_ = by (sort-of keys next) }
      where
        by : IsSort keys next → event_for keys next ≡ Some event
        by (inl (own, e)) =
            e ∙ ap Some (next-unique setup entries flow.0 own event (event-is_next own e) there)
        by (inr (inl (node, e))) = absurd (not-both setup entries flow.0 event node (values_at place.local) there
            (call-is_next node e))
        by (inr (inr e)) = absurd (next-goes_on setup entries legal flow.0 within event there (ended-is e))

    -- and where its next event is a call, one comes there
    pub call-coming : (node : NodeNo) (args : List Value) → CallIsNext setup entries flow.0 node args
        → (own : NodeNo) × (next ≡ nexts.Call own)
    call-coming node args there = by (sort-of keys next)
      where
        by : IsSort keys next → (own : NodeNo) × (next ≡ nexts.Call own)
        by (inl (event, e)) = absurd (not-both setup entries flow.0 event node args (event-is_next event e) there)
        by (inr (inl call)) = call
        by (inr (inr e)) = absurd (call-goes_on setup entries legal flow.0 within node args there (ended-is e))

    -- ---- a take

    module _ (class : ClassNo) (mode : Mode) (takes : next ≡ nexts.Take class mode) (key : Key)
        (is_key : key_for setup (item_of setup flow.0) class ≡ Some key) where
      key-same : keys class ≡ key
      key-same = let e = sym (place-key_for setup (plans_of r) entries legal flow.0 place own class) ∙ is_key in cc

      pub take-event : event_for keys next ≡ Some (Take key mode)
      take-event = ap (event_for keys) takes ∙ ap (λ (k : Key). Some (Take k mode)) key-same

      pub take-is_next : IsNext setup entries flow.0 (Take key mode)
      take-is_next = event-is_next (Take key mode) take-event

      pub asks-rightly : MayTake (holders_of r.table) (lines_of r.table) flow.0 key mode
      asks-rightly = let after = is.after in may-take setup entries legal r.table after.table flow.0 key mode within
          take-is_next

      module _ (lowest : Option FlowNo) (is_lowest : IsLowestOf
          (λ other. table.Blocks (holders_of r.table key) (lines_of r.table key) other flow.0 mode) lowest) where
        pub lowest-is : IsLowestOf (λ other. Blocks entries other flow.0 key mode) lowest
        lowest-is = let after = is.after in lowest-blocks setup entries legal r.table after.table flow.0 key mode
            take-is_next lowest is_lowest

      pub none-blocked : ((other : ℕ) → Blocks entries other flow.0 key mode → ⊥) → IsBlocked setup entries flow.0 → ⊥
      none-blocked free (other, waits) =
          let same : Take key mode ≡ Take waits.key waits.mode =
          next-unique setup entries flow.0 (Take key mode) (Take waits.key waits.mode) take-is_next waits.next in
          let ks : waits.key ≡ key = cc in
          let ms : waits.mode ≡ mode = cc in
          free other (subst (λ (k : Key). Blocks entries other flow.0 k mode) ks
          (subst (λ (m : Mode). Blocks entries other flow.0 waits.key m) ms waits.blocked))

    -- ---- a drop

    pub drop-event : (class : ClassNo) → next ≡ nexts.Drop class → (key : Key)
        → key_for setup (item_of setup flow.0) class ≡ Some key → event_for keys next ≡ Some (Drop key)
    drop-event class drops key is_key =
        let same : keys class ≡ key = let e = sym (place-key_for setup (plans_of r) entries legal flow.0 place own
        class) ∙ is_key in cc in
        ap (event_for keys) drops ∙ ap (λ (k : Key). Some (Drop k)) same

    -- ---- and nothing else

    -- what comes, where the keys are those of the flow
    pub comes : (told : Coming) → IsComing setup entries flow.0 told
        → ((event : Event) → event_for keys next ≡ Some event → event_of told ≡ Some event)
        → ((node : NodeNo) → next ≡ nexts.Call node → told ≡ comings.Call node)
        → (next ≡ nexts.Ended → told ≡ comings.Ended) → Comes setup entries flow.0 told
    comes told is_coming event_is call_is ended_is = record {
      is = is_coming;
      event = λ event there. by_event event there (sort-of keys next);
      call = λ node args there. by_call node args there (sort-of keys next);
      ended = λ ended. by_ended ended (sort-of keys next);
    }
      where
        by_event : (event : Event) → IsNext setup entries flow.0 event → IsSort keys next
            → event_of told ≡ Some event
        by_event event there (inl (own, e)) =
            let same = next-unique setup entries flow.0 own event (event-is_next own e) there in
            event_is own e ∙ ap Some same
        by_event event there (inr (inl (node, e))) = absurd (not-both setup entries flow.0 event node
            (values_at place.local) there (call-is_next node e))
        by_event event there (inr (inr e)) =
            absurd (next-goes_on setup entries legal flow.0 within event there (ended-is e))

        by_call : (node : NodeNo) (args : List Value) → CallIsNext setup entries flow.0 node args → IsSort keys next
            → told ≡ comings.Call node
        by_call node args there (inl (own, e)) =
            absurd (not-both setup entries flow.0 own node args (event-is_next own e) there)
        by_call node args there (inr (inl (other, e))) =
            let same = calls-unique setup entries flow.0 other node (values_at place.local) args (call-is_next other e)
            there in
            call_is other e ∙ ap comings.Call same.0
        by_call node args there (inr (inr e)) =
            absurd (call-goes_on setup entries legal flow.0 within node args there (ended-is e))

        by_ended : has_ended entries flow.0 ≡ true → IsSort keys next → told ≡ comings.Ended
        by_ended ended (inl (own, e)) =
            absurd (next-goes_on setup entries legal flow.0 within own (event-is_next own e) ended)
        by_ended ended (inr (inl (node, e))) =
            absurd (call-goes_on setup entries legal flow.0 within node (values_at place.local) (call-is_next node e)
            ended)
        by_ended ended (inr (inr e)) = ended_is e
