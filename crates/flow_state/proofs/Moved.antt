-- What holds of a state's fields keeps holding with each move.
use Rattle.std.proofs.Common.{◌≡◌, ℕ, true, false, List, [], ◌∷◌, ◌++◌, Some, refl, sym, ap, subst, ◌∙◌}
use Rattle.std.specs.List.{slice_get, slice_set}
use Rattle.flux_values.specs.declared.values.Value.{Value}
use Rattle.flux_values.specs.declared.answers.Mode.{Mode}
use Rattle.flux_model.specs.declared.programs.NodeNo.{NodeNo}
use Rattle.flux_model.specs.declared.items.FlowNo.{FlowNo}
use Rattle.flow_model.specs.declared.journals.Key.{Key}
use Rattle.flow_model.specs.declared.journals.Entry.{Entry}
use Rattle.flow_model.specs.declared.journals.CallMade.{CallMade}
use Rattle.flow_model.specs.declared.journals.Event.{Event}
use Rattle.flow_model.specs.declared.journals.Event.TheVariants.{Take, Wait, Enter, Choose, Call, Exit, Drop, End}
use Rattle.flow_model.specs.Setup.{Setup, item_of}
use Rattle.flow_model.specs.Keys.{Cells}
use Rattle.flow_model.specs.CellsAfter.{after_event, after_entries, cells_after}
use Rattle.flow_model.specs.Events.{events_by, own_events, own_answers, IsNext, CallIsNext}
use Rattle.flow_model.specs.Waits.{Blocks}
use Rattle.flow_model.specs.Legal.{IsLegal}
use Rattle.flux_table.specs.Tables.{Locks}
use Rattle.flux_table.specs.Changes.{Takes, Waits, Releases}
use Rattle.flux_laws.specs.Going.{IsBlocked}
use Rattle.flux_laws.specs.Moves.{MayStep, MayStand, MayCall}
use Rattle.flux_laws.proofs.Standing.{next-unique}
use Rattle.flux_laws.proofs.Added.{event_is_legal, wait_is_legal, call_is_legal}
use Rattle.flux_laws.proofs.NextEvents.{own_events-more, own_answers-more}
use Rattle.std.proofs.lemmas.List.{append-nil}
use Rattle.flux_plan.specs.declared.plans.Plan.{Plan}
use Rattle.flux_plan.specs.declared.locals.Next.{Next}
use Rattle.flux_plan.specs.declared.locals.Next.TheVariants as nexts
use Rattle.flux_plan.specs.Machine.{values_at}
use Rattle.flux_plan.specs.Moves.{next_in, called_in, Advances, IsAnswered}
use Rattle.flow_state.specs.declared.places.Place.{Place}
use Rattle.flow_state.specs.steps.Places.{matches_in, HasPlan, is_wait, ends_waiting, IsPlaceOf, IsComing, IsQuiet, IsEventComing}
use Rattle.flow_state.specs.steps.Table.{IsTable}
use Rattle.flow_state.specs.steps.Fields.{IsGiven, IsAfter}
use Rattle.flow_state.proofs.Entries.{events-own, waiting-last}
use Rattle.flow_state.proofs.Tables.{nowhere-by, nowhere-calling, table-quiet, table-taken, table-dropped, table-waited}
use Rattle.flow_state.proofs.AtPlaces.{one-plan, place-next, place-calls, place-later, place-advanced, place-answered, place-nowhere, places-more}

-- ---- cells

after-append : (setup : Setup) (cells : Cells) (a b : List Entry)
    → after_entries setup cells (a ++ b) ≡ after_entries setup (after_entries setup cells a) b
after-append setup cells [] b = refl
after-append setup cells (entry ∷ a) b = after-append setup (after_event setup entry.flow.0 cells entry.event) a b

pub cells-more : (setup : Setup) (entries : List Entry) (flow : FlowNo) (event : Event)
    → cells_after setup (entries ++ record { flow = flow; event = event } ∷ []) ≡ after_event setup flow.0
    (cells_after setup entries) event
cells-more setup entries flow event = after-append setup setup.opening entries
    (record { flow = flow; event = event } ∷ [])

-- ---- what comes next

quiet-no_wait : (event : Event) → IsQuiet event → is_wait event ≡ false
quiet-no_wait (Take key mode) quiet = absurd quiet
quiet-no_wait (Wait key mode) quiet = absurd quiet
quiet-no_wait (Enter node) quiet = refl
quiet-no_wait (Choose place) quiet = refl
quiet-no_wait (Call made) quiet = refl
quiet-no_wait (Exit node outcome) quiet = refl
quiet-no_wait (Drop key) quiet = absurd quiet
quiet-no_wait (End outcome) quiet = refl

quiet-no_take : (event : Event) → IsQuiet event → (key : Key) (mode : Mode) → event ≡ Take key mode → ⊥
quiet-no_take event quiet key mode e = subst IsQuiet e quiet

module _ (setup : Setup) (plans : List Plan) (given : IsGiven setup plans) (entries : List Entry) (places : List Place)
    (locks : Locks) (cells : Cells)
    (after : IsAfter setup plans entries places locks cells) (flow : FlowNo) where
  abbrev more : Event → List Entry
  more event = entries ++ record { flow = flow; event = event } ∷ []

  abbrev Coming : Event → Type 0
  Coming event = IsEventComing setup plans places flow.0 event

  legal : IsLegal setup entries
  legal = after.legal

  -- the place of a flow
  pub here : (place : Place) → slice_get places flow.0 ≡ Some place → IsPlaceOf setup plans entries flow.0 place
  here place at = let are = after.places_ in are.each flow.0 place at

  -- what comes at its place comes in the plan that is known
  pub coming-there : (next : Next) (coming : IsComing setup plans places flow.0 next)
      → let place = coming.place in let own = here coming.place coming.is_place in
      next_in own.plan (matches_in setup) place.local ≡ Some next
  coming-there next coming =
      let place = coming.place in
      let own = here coming.place coming.is_place in
      subst (λ (p : Plan). next_in p (matches_in setup) place.local ≡ Some next)
      (one-plan plans (item_of setup flow.0) coming.plan own.plan coming.is_plan own.is_plan) coming.coming

  pub event-next : (event : Event) → Coming event → IsNext setup entries flow.0 event
  event-next event is =
      let coming = is.coming in
      place-next setup plans entries legal flow.0 coming.place (here coming.place coming.is_place) is.next
      (coming-there is.next coming) event is.event_

  pub call-next : (node : NodeNo) (coming : IsComing setup plans places flow.0 (nexts.Call node))
      → let place = coming.place in CallIsNext setup entries flow.0 node (values_at place.local)
  call-next node coming = place-calls setup plans entries legal flow.0 coming.place (here coming.place coming.is_place)
      (nexts.Call node) (coming-there (nexts.Call node) coming) node refl

  -- only takes are blocked
  pub not-blocked : (event : Event) → IsNext setup entries flow.0 event
      → ((key : Key) (mode : Mode) → event ≡ Take key mode → ⊥) → IsBlocked setup entries flow.0 → ⊥
  not-blocked event next away (other, waits) = away waits.key waits.mode
      (next-unique setup entries flow.0 event (Take waits.key waits.mode) next waits.next)

  -- ---- moves

  -- the flow's new place after an event
  pub record IsMadeAt (place new : Place) : Type 0 where
    pub made : HasPlan plans setup.items flow.0 (λ plan. Advances plan (matches_in setup) place.local new.local)
    pub session : new.session ≡ place.session

  pub record HasMoved (event : Event) (new : Place) (after_locks : Locks) (after_cells : Cells) : Type 0 where
    pub holds : IsAfter setup plans (more event) (slice_set places flow.0 new) after_locks after_cells
    pub may : MayStep setup entries flow event

  abbrev OldPlace : (event : Event) → Coming event → Place
  OldPlace event is = let coming = is.coming in coming.place

  module _ (event : Event) (is : Coming event) (new : Place) (made : IsMadeAt (OldPlace event is) new)
      (stands : new.stands ≡ false) (no_wait : is_wait event ≡ false)
      (free : IsBlocked setup entries flow.0 → ⊥) (new_locks : Locks) (table : IsTable (more event) new_locks)
      (same_cells : cells_after setup (more event) ≡ cells_after setup entries) where
    step-may : MayStep setup entries flow event
    step-may = record { next = event-next event is; free = free }

    step-holds : IsAfter setup plans (more event) (slice_set places flow.0 new) new_locks cells
    step-holds =
        let after_legal = event_is_legal setup entries flow event legal step-may in
        let coming = is.coming in
        record {
          legal = after_legal;
          places_ = places-more setup plans given entries places after.places_ flow event legal new
              (place-advanced setup plans entries legal flow.0 coming.place (here coming.place coming.is_place) is.next
              (coming-there is.next coming) event is.event_ new made.made made.session stands no_wait);
          table = table;
          cells_ = after.cells_ ∙ sym same_cells;
        }

  -- an event that changes no keys
  pub moved-quiet : (event : Event) (is : Coming event) (new : Place) → IsMadeAt (OldPlace event is) new → IsQuiet event
      → ((made : CallMade) → event ≡ Call made → ⊥)
      → (let old = OldPlace event is in new.stands ≡ old.stands) → HasMoved event new locks cells
  moved-quiet event is new made quiet no_call stands =
      let next = event-next event is in
      let coming = is.coming in
      let away = quiet-no_take event quiet in
      let nowhere = nowhere-by setup entries legal flow.0 event next away in
      let still : new.stands ≡ false = stands ∙ place-nowhere setup plans entries legal flow.0 coming.place
      (here coming.place coming.is_place) nowhere in
      let free = not-blocked event next away in
      let same = cells-more setup entries flow event ∙ no_change event quiet no_call in
      record {
        holds = step-holds event is new made still (quiet-no_wait event quiet) free locks
            (table-quiet setup entries legal locks after.table flow event quiet nowhere) same;
        may = step-may event is new made still (quiet-no_wait event quiet) free locks
            (table-quiet setup entries legal locks after.table flow event quiet nowhere) same;
      }
    where
      no_change : (e : Event) → IsQuiet e → ((m : CallMade) → e ≡ Call m → ⊥)
          → after_event setup flow.0 (cells_after setup entries) e ≡ cells_after setup entries
      no_change (Take key mode) q n = refl
      no_change (Wait key mode) q n = refl
      no_change (Enter node) q n = refl
      no_change (Choose place) q n = refl
      no_change (Call m) q n = absurd (n m refl)
      no_change (Exit node outcome) q n = refl
      no_change (Drop key) q n = refl
      no_change (End outcome) q n = refl

  -- a drop
  pub moved-drop : (key : Key) (is : Coming (Drop key)) (new : Place) → IsMadeAt (OldPlace (Drop key) is) new
      → (let old = OldPlace (Drop key) is in new.stands ≡ old.stands)
      → (new_locks : Locks) → Releases locks new_locks flow.0 key → HasMoved (Drop key) new new_locks cells
  moved-drop key is new made stands new_locks releases =
      let next = event-next (Drop key) is in
      let coming = is.coming in
      let away : (k : Key) (mode : Mode) → Drop key ≡ Take k mode → ⊥ = λ k mode e. cc in
      let nowhere = nowhere-by setup entries legal flow.0 (Drop key) next away in
      let still : new.stands ≡ false = stands ∙ place-nowhere setup plans entries legal flow.0 coming.place
      (here coming.place coming.is_place) nowhere in
      let free = not-blocked (Drop key) next away in
      let table = table-dropped setup entries legal locks after.table flow key new_locks next releases in
      let same = cells-more setup entries flow (Drop key) in
      record {
        holds = step-holds (Drop key) is new made still refl free new_locks table same;
        may = step-may (Drop key) is new made still refl free new_locks table same;
      }

  -- a take that nobody blocks
  pub moved-take : (key : Key) (mode : Mode) (is : Coming (Take key mode)) (new : Place)
      → IsMadeAt (OldPlace (Take key mode) is) new → new.stands ≡ false
      → ((other : ℕ) → Blocks entries other flow.0 key mode → ⊥) → (new_locks : Locks)
      → Takes locks new_locks flow.0 key mode → HasMoved (Take key mode) new new_locks cells
  moved-take key mode is new made stands nobody new_locks takes =
      let next = event-next (Take key mode) is in
      let free : IsBlocked setup entries flow.0 → ⊥ = λ blocked.
      let waits = blocked.1 in
      let same : Take key mode ≡ Take waits.key waits.mode =
      next-unique setup entries flow.0 (Take key mode) (Take waits.key waits.mode) next waits.next in
      let keys : key ≡ waits.key = cc in
      let modes : mode ≡ waits.mode = cc in
      nobody blocked.0 (subst (λ (k : Key). Blocks entries blocked.0 flow.0 k mode) (sym keys)
      (subst (λ (m : Mode). Blocks entries blocked.0 flow.0 waits.key m) (sym modes) waits.blocked)) in
      let table = table-taken setup entries legal locks after.table flow key mode new_locks next takes in
      let same = cells-more setup entries flow (Take key mode) in
      record {
        holds = step-holds (Take key mode) is new made stands refl free new_locks table same;
        may = step-may (Take key mode) is new made stands refl free new_locks table same;
      }

  -- a wait
  pub record HasStood (key : Key) (mode : Mode) (new : Place) (after_locks : Locks) : Type 0 where
    pub holds : IsAfter setup plans (more (Wait key mode)) (slice_set places flow.0 new) after_locks cells
    pub may : MayStand setup entries flow key mode

  pub moved-wait : (key : Key) (mode : Mode) → MayStand setup entries flow key mode → (place : Place)
      → slice_get places flow.0 ≡ Some place → (new : Place) → new.local ≡ place.local → new.session ≡ place.session
      → new.stands ≡ true → (new_locks : Locks) → Waits locks new_locks flow key mode
      → IsAfter setup plans (more (Wait key mode)) (slice_set places flow.0 new) new_locks cells
  moved-wait key mode may place at new local session stands new_locks waits =
      let own = here place at in
      record {
        legal = wait_is_legal setup entries flow key mode legal may;
        places_ = places-more setup plans given entries places after.places_ flow (Wait key mode) legal new
            (place-later setup plans entries legal flow.0 place own (more (Wait key mode)) new
            (own_answers-more entries flow.0 (Wait key mode) ∙ append-nil (own_answers entries flow.0))
            (own_events-more entries flow.0 (Wait key mode) ∙ append-nil (own_events entries flow.0))
            local session
            (stands ∙ sym (ap (ends_waiting false) (events-own entries flow.0 (Wait key mode)) ∙ waiting-last false
            (events_by flow.0 entries) (Wait key mode))));
        table = table-waited setup entries legal locks after.table flow key mode new_locks
            may.once waits;
        cells_ = after.cells_ ∙ sym (cells-more setup entries flow (Wait key mode));
      }

  -- a call
  pub moved-call : (place new : Place) → slice_get places flow.0 ≡ Some place → (made : CallMade)
      → MayCall setup entries flow made
      → HasPlan plans setup.items flow.0 (λ plan. IsAnswered plan place.local made.answer new.local)
      → new.session ≡ place.session → new.stands ≡ place.stands
      → (own : IsPlaceOf setup plans entries flow.0 place) → called_in own.plan place.local ≡ Some made.node
      → values_at place.local ≡ made.args
      → (new_cells : Cells) → new_cells ≡ after_event setup flow.0 (cells_after setup entries) (Call made)
      → IsAfter setup plans (more (Call made)) (slice_set places flow.0 new) locks new_cells
  moved-call place new at made may answered session stands own called args new_cells changed =
      let nowhere = nowhere-calling setup entries legal flow.0 made.node made.args may.next in
      let as_made : record { node = made.node; args = values_at place.local; answer = made.answer } ≡ made =
      ap (λ (vs : List Value). record { node = made.node; args = vs; answer = made.answer }) args in
      record {
        legal = call_is_legal setup entries flow made legal may;
        places_ = places-more setup plans given entries places after.places_ flow (Call made) legal new
            (subst (λ (m : CallMade). IsPlaceOf setup plans (more (Call m)) flow.0 new) as_made
            (place-answered setup plans entries legal flow.0 place own made.node made.answer called new answered session
            (stands ∙ place-nowhere setup plans entries legal flow.0 place own nowhere)));
        table = table-quiet setup entries legal locks after.table flow (Call made) tt nowhere;
        cells_ = changed ∙ sym (cells-more setup entries flow (Call made));
      }
