-- What moves leave in a state's fields.
use Rattle.std.proofs.Common.{◌≡◌, ◌<◌, ◌≤◌, ◌-◌, inl, inr, ℕ, true, false, get_or, List, [], ◌∷◌, ◌++◌, length, Some, refl, sym, ap, subst, ◌∙◌, arith}
use Rattle.std.specs.Prelude.{IsSome}
use Rattle.std.specs.List.{slice_get, slice_set}
use Rattle.std.specs.Vec.{with_item}
use Rattle.std.proofs.lemmas.Option.{slice_get_within, slice_get_read}
use Rattle.flux_values.specs.declared.answers.Mode.{Mode}
use Rattle.flux_values.specs.Meanings.{LibraryMeaning}
use Rattle.flux_model.specs.declared.programs.ClassNo.{ClassNo}
use Rattle.flux_model.specs.declared.items.FlowNo.{FlowNo}
use Rattle.flow_model.specs.declared.journals.Key.{Key}
use Rattle.flow_model.specs.declared.journals.Entry.{Entry}
use Rattle.flow_model.specs.declared.journals.CallMade.{CallMade}
use Rattle.flow_model.specs.declared.journals.Event.{Event}
use Rattle.flow_model.specs.declared.journals.Event.TheVariants.{Take, Wait, Call, Drop}
use Rattle.flow_model.specs.Setup.{Setup, item_of}
use Rattle.flow_model.specs.CellsAfter.{key_for}
use Rattle.flow_model.specs.Events.{IsNext}
use Rattle.flow_model.specs.Waits.{Blocks}
use Rattle.flow_model.specs.Legal.{IsLegal}
use Rattle.flux_laws.specs.Growth.{is_end, has_ended}
use Rattle.flux_laws.specs.Moves.{MayStand}
use Rattle.flux_laws.proofs.NextEvents.{next-item}
use Rattle.flux_laws.proofs.Standing.{next-unique}
use Rattle.flux_plan.specs.declared.locals.Next.{Next}
use Rattle.flux_plan.specs.declared.locals.Next.TheVariants as nexts
use Rattle.flux_plan.specs.Moves.{next_in, IsReached, Advances}
use Rattle.flux_table.specs.Tables.{Locks, holders_of, lines_of}
use Rattle.flux_table.specs.Blockers as table
use Rattle.flux_table.specs.Blockers.{MayTake, MayWait, IsLowestOf}
use Rattle.flux_table.specs.Changes.{Takes, Waits, Releases}
use Rattle.flux_cells.specs.Kept.{cells_of}
use Rattle.flow_state.specs.declared.places.Place.{Place}
use Rattle.flow_state.specs.declared.fields.Fields.{Fields}
use Rattle.flow_state.specs.States.{setup_at, IsLegalState}
use Rattle.flow_state.specs.Moves.{AddsEvent, AddsWait}
use Rattle.flow_state.specs.steps.Places.{matches_in, HasPlan, MayAdvance, key_in, IsPlaceOf, event_for, IsQuiet, IsEventComing}
use Rattle.flow_state.specs.steps.Table.{IsUndone}
use Rattle.flow_state.specs.steps.Fields.{state_of, plans_of, IsAfter, AreFields}
use Rattle.flow_state.proofs.Entries.{not_waiting-nowhere}
use Rattle.flow_state.proofs.Tables.{table-back, blocks-to, may-take, may-wait, may-release}
use Rattle.flow_state.proofs.Sets.{replaced-same}
use Rattle.flow_state.proofs.Ended.{live_in, live-still, live-less, next-goes_on, not-true, live-some}
use Rattle.flow_state.proofs.AtPlaces.{place-key_for, place-reached, place-may_advance}
use Rattle.flow_state.proofs.Moved.{here, coming-there, event-next, IsMadeAt, HasMoved, moved-quiet, moved-drop, moved-take, moved-wait}

not-call-event : (key : ClassNo → Key) (next : Next) (made : CallMade) → event_for key next ≡ Some (Call made) → ⊥
not-call-event key (nexts.Take class mode) made h = cc
not-call-event key (nexts.Enter node) made h = cc
not-call-event key (nexts.Choose number) made h = cc
not-call-event key (nexts.Call node) made h = cc
not-call-event key (nexts.Exit node outcome) made h = cc
not-call-event key (nexts.Drop class) made h = cc
not-call-event key (nexts.End outcome) made h = cc
not-call-event key nexts.Ended made h = cc

-- a place that was read
pub read-at : (places : List Place) (flow : ℕ) (place : Place) → flow < length places → place ≡ get_or places flow place
    → slice_get places flow ≡ Some place
read-at places flow place within read = slice_get_read places (length places) flow place refl within read

module _ {L : Type 0} (meaning : L → LibraryMeaning) (r : Fields L) (is : AreFields meaning r) where
  abbrev setup : Setup
  setup = setup_at meaning (state_of r)

  abbrev entries : List Entry
  entries = r.made

  abbrev items : List Place
  items = let places = r.places in places.items

  legal : IsLegal setup entries
  legal = let after = is.after in after.legal

  -- ---- what is kept

  pub kept-of : IsLegalState meaning (state_of r)
  kept-of =
      let given = is.given in
      record {
        lawful = given.lawful;
        kinds = given.kinds;
        sound = given.sound;
        fit = given.fit;
        few = given.few;
        plans_ = given.plans_;
        legal = legal;
      }

  -- ---- reading

  pub within-places : (flow : ℕ) → flow < length setup.items → flow < length items
  within-places flow lt = let after = is.after in let places = after.places_ in let count =
      places.count in omega (arith, lt, count)

  module _ (flow : FlowNo) where
    -- the fields after a move
    abbrev Moved : Place → Locks → List Entry → ℕ → Fields L
    Moved new locks made live = record {
      alloc = r.alloc;
      setup = r.setup;
      places = with_item r.places flow.0 new;
      table = locks;
      cells = r.cells;
      live = live;
      reads = r.reads;
      made = made;
    }

    still : (place : Place) → slice_get items flow.0 ≡ Some place → (locks : Locks) → locks ≡ r.table
        → AreFields meaning (Moved place locks r.made r.live)
    still place at locks same_locks = record {
      given = is.given;
      after = subst (λ (l : Locks). IsAfter setup (plans_of r) entries (slice_set items flow.0 place) l
          (cells_of r.cells)) (sym same_locks)
          (subst (λ (ps : List Place). IsAfter setup (plans_of r) entries ps r.table (cells_of r.cells))
          (sym (replaced-same items flow.0 place at)) is.after);
      live = is.live;
      reads_ = is.reads_;
    }

    pub place-of : (place : Place) → flow.0 < length setup.items → place ≡ get_or items flow.0 place
        → IsPlaceOf setup (plans_of r) entries flow.0 place
    place-of place lt read = let after = is.after in let places =
        after.places_ in places.each flow.0 place (read-at items flow.0 place (within-places flow.0 lt) read)

    module _ (place : Place) (lt : flow.0 < length setup.items) (read : place ≡ get_or items flow.0 place) where
      pub read-there : slice_get items flow.0 ≡ Some place
      read-there = read-at items flow.0 place (within-places flow.0 lt) read

      pub reached-of : HasPlan (plans_of r) setup.items flow.0 (λ plan. IsReached plan (matches_in setup) place.local)
      reached-of = place-reached setup (plans_of r) entries legal flow.0 place (place-of place lt read)

      pub key-of : (class : ClassNo) → key_for setup (item_of setup flow.0) class ≡ Some
          (key_in setup.program place.session class)
      key-of class = place-key_for setup (plans_of r) entries legal flow.0 place (place-of place lt read) class

    module _ (event : Event) (coming : IsEventComing setup (plans_of r) items flow.0 event) (place : Place)
        (read : place ≡ get_or items flow.0 place) where
      pub at-place : slice_get items flow.0 ≡ Some place
      at-place = let c = coming.coming in read-at items flow.0 place (slice_get_within items flow.0 c.place c.is_place)
          read

      same-place : (let c = coming.coming in c.place ≡ place)
      same-place = let c = coming.coming in let e = sym c.is_place ∙ at-place in cc

      -- the same event comes next at the place that was read
      abbrev there : IsEventComing setup (plans_of r) items flow.0 event
      there = let c = coming.coming in record {
        next = coming.next;
        coming = record {
          place = place;
          is_place = at-place;
          plan = c.plan;
          is_plan = c.is_plan;
          coming = subst (λ (p : Place). next_in c.plan (matches_in setup) p.local ≡ Some coming.next) same-place
              c.coming;
        };
        event_ = subst (λ (p : Place). event_for (key_in setup.program p.session) coming.next ≡ Some event) same-place
            coming.event_;
      }

      next-is : IsNext setup entries flow.0 event
      next-is = event-next setup (plans_of r) is.given entries items r.table (cells_of r.cells) is.after flow event
          there

      abbrev own-place : IsPlaceOf setup (plans_of r) entries flow.0 place
      own-place = here setup (plans_of r) is.given entries items r.table (cells_of r.cells) is.after flow place at-place

      pub may-advance : HasPlan (plans_of r) setup.items flow.0 (λ plan. MayAdvance plan (matches_in setup) place.local)
      may-advance = place-may_advance setup (plans_of r) entries legal flow.0 place own-place there.next
          (coming-there setup (plans_of r) is.given entries items r.table (cells_of r.cells) is.after flow there.next
          there.coming) event there.event_

      module _ (new : Place) (locks : Locks) (made : List Entry) (live : ℕ)
          (added : made ≡ entries ++ record { flow = flow; event = event } ∷ [])
          (moved : HasMoved setup (plans_of r) is.given entries items r.table (cells_of r.cells) is.after flow event new
          locks (cells_of r.cells)) where
        moved-running : live ≡ live_in (entries ++ record { flow = flow; event = event } ∷ []) (length setup.items)
            → AreFields meaning (Moved new locks made live)
        moved-running counted = record {
          given = is.given;
          after = subst (λ (es : List Entry). IsAfter setup (plans_of r) es (slice_set items flow.0 new) locks
              (cells_of r.cells)) (sym added) moved.holds;
          live = counted ∙ ap (λ (es : List Entry). live_in es (length setup.items)) (sym added);
          reads_ = is.reads_;
        }

        pub moved-makes : AddsEvent meaning (state_of r) (state_of (Moved new locks made live)) flow event
        moved-makes = record { may = moved.may; new_ = λ i. record (state_of r) { entries = added i } }

        -- an event that is no end
        pub moved-goes_on : is_end event ≡ false → live ≡ r.live → AreFields meaning (Moved new locks made live)
        moved-goes_on no_end same = moved-running (same ∙ is.live ∙ sym
            (live-still entries flow event (length setup.items) no_end))

      -- ---- the moves

      made-at : (new : Place) → HasPlan (plans_of r) setup.items flow.0
          (λ plan. Advances plan (matches_in setup) place.local new.local) → new.session ≡ place.session
          → IsMadeAt setup (plans_of r) is.given entries items r.table (cells_of r.cells) is.after flow place new
      made-at new made session = record { made = made; session = session }

      pub quiet-moved : (new : Place) → HasPlan (plans_of r) setup.items flow.0
          (λ plan. Advances plan (matches_in setup) place.local new.local)
          → new.session ≡ place.session → new.stands ≡ place.stands → IsQuiet event
          → ((made : CallMade) → event ≡ Call made → ⊥)
          → HasMoved setup (plans_of r) is.given entries items r.table (cells_of r.cells) is.after flow event new
          r.table (cells_of r.cells)
      quiet-moved new made session stands quiet no_call =
          moved-quiet setup (plans_of r) is.given entries items r.table (cells_of r.cells) is.after flow event there new
          (made-at new made session) quiet no_call stands

      -- an event that comes next is no call
      pub no-call : (made : CallMade) → event ≡ Call made → ⊥
      no-call made e = by coming.next (coming.event_ ∙ ap Some e)
        where
          by : (next : Next) → (let c = coming.coming in let p =
              c.place in event_for (key_in setup.program p.session) next ≡ Some (Call made)) → ⊥
          by next h = not-call-event (let c = coming.coming in let p = c.place in key_in setup.program p.session) next
              made h

      -- the flow has not ended
      pub goes-on : has_ended entries flow.0 ≡ false
      goes-on = not-true (has_ended entries flow.0) (next-goes_on setup entries legal flow.0
          (let after = is.after in let places = after.places_ in let count = places.count in let lt =
          slice_get_within items flow.0 place at-place in omega (arith, count, lt)) event next-is)

      within-items : flow.0 < length setup.items
      within-items = let after = is.after in let places = after.places_ in let count = places.count in let lt =
          slice_get_within items flow.0 place at-place in omega (arith, count, lt)

      pub some-live : 1 ≤ r.live
      some-live = let counted = is.live in let some = live-some entries flow.0 (length setup.items) within-items goes-on
          in omega (arith, counted, some)

      pub end-running : (new : Place) (made : List Entry)
          → made ≡ entries ++ record { flow = flow; event = event } ∷ []
          → HasMoved setup (plans_of r) is.given entries items r.table (cells_of r.cells) is.after flow event new
          r.table (cells_of r.cells)
          → is_end event ≡ true → AreFields meaning (Moved new r.table made (r.live - 1))
      end-running new made added moved is_end_ =
          let counted = is.live in
          let less = live-less entries flow event (length setup.items) is_end_ within-items goes-on in
          moved-running new r.table made (r.live - 1) added moved (omega (arith, counted, less))

    -- ---- takes, waits and drops

    module _ (key : Key) (mode : Mode) (coming : IsEventComing setup (plans_of r) items flow.0 (Take key mode))
        (place : Place) (read : place ≡ get_or items flow.0 place) where
      pub take-next : IsNext setup entries flow.0 (Take key mode)
      take-next = next-is (Take key mode) coming place read

      pub may-take-it : MayTake (holders_of r.table) (lines_of r.table) flow.0 key mode
      may-take-it = let after = is.after in may-take setup entries legal r.table after.table flow.0 key mode
          (within-items (Take key mode) coming place read) take-next

      pub none-blocks : ((other : ℕ) → Blocks entries other flow.0 key mode → ⊥) → (other : ℕ)
          → table.Blocks (holders_of r.table key) (lines_of r.table key) other flow.0 mode → ⊥
      none-blocks free other blocks = let after = is.after in free other
          (blocks-to setup entries legal r.table after.table other flow.0 key mode blocks)

      pub take-moved : (new : Place) → HasPlan (plans_of r) setup.items flow.0
          (λ plan. Advances plan (matches_in setup) place.local new.local)
          → new.session ≡ place.session → new.stands ≡ false
          → ((other : ℕ) → Blocks entries other flow.0 key mode → ⊥)
          → (locks : Locks) → Takes r.table locks flow.0 key mode
          → HasMoved setup (plans_of r) is.given entries items r.table (cells_of r.cells) is.after flow (Take key mode)
          new locks (cells_of r.cells)
      take-moved new made session stands free locks takes =
          moved-take setup (plans_of r) is.given entries items r.table (cells_of r.cells) is.after flow key mode
          (there (Take key mode) coming place read) new
          (made-at (Take key mode) coming place read new made session) stands free locks takes

      -- nothing changes where a move is refused
      pub still-running : (locks : Locks) → locks ≡ r.table → AreFields meaning (Moved place locks r.made r.live)
      still-running = still place (at-place (Take key mode) coming place read)

      -- nor where it was undone
      pub undone-running : place.stands ≡ false → (locks : Locks) → IsUndone r.table locks flow.0 key mode
          → AreFields meaning (Moved place locks r.made r.live)
      undone-running idle locks (inl same_locks) = still-running locks same_locks
      undone-running idle locks (inr back) =
          let after = is.after in
          let own = own-place (Take key mode) coming place read in
          let nowhere = not_waiting-nowhere entries flow.0 (sym own.stands ∙ idle) in
          let table = table-back setup entries legal r.table after.table flow key mode back.between locks back.takes
          back.gives (nowhere key) in
          record {
            given = is.given;
            after = subst (λ (ps : List Place). IsAfter setup (plans_of r) entries ps locks (cells_of r.cells))
                (sym (replaced-same items flow.0 place (at-place (Take key mode) coming place read)))
                (record { legal = after.legal; places_ = after.places_; table = table; cells_ = after.cells_ });
            live = is.live;
            reads_ = is.reads_;
          }

    module _ (key : Key) (mode : Mode) (may : MayStand setup entries flow key mode) where
      waits-blocked : (other : ℕ) × Blocks entries other flow.0 key mode
      waits-blocked =
          let (other, waits) = may.blocked in
          let same : Take key mode ≡ Take waits.key waits.mode =
          next-unique setup entries flow.0 (Take key mode) (Take waits.key waits.mode) may.next waits.next in
          let ks : waits.key ≡ key = cc in
          let ms : waits.mode ≡ mode = cc in (
            other,
            subst (λ (k : Key). Blocks entries other flow.0 k mode) ks
                (subst (λ (m : Mode). Blocks entries other flow.0 waits.key m) ms waits.blocked),
          )

      pub wait-within : flow.0 < length setup.items
      wait-within = next-item setup entries flow.0 (Take key mode) may.next

      pub may-wait-it : MayWait (holders_of r.table) (lines_of r.table) flow.0 key
      may-wait-it =
          let after = is.after in
          let (other, blocks) = waits-blocked in
          may-wait setup entries legal r.table after.table flow.0 other key mode blocks may.next may.once

      pub wait-refused : (place : Place) → place ≡ get_or items flow.0 place → (locks : Locks) → locks ≡ r.table
          → AreFields meaning (Moved place locks r.made r.live)
      wait-refused place read = still place (read-there place wait-within read)

      module _ (place : Place) (read : place ≡ get_or items flow.0 place) (new : Place)
          (local : new.local ≡ place.local) (session : new.session ≡ place.session)
          (stands : new.stands ≡ true) (locks : Locks) (waits : Waits r.table locks flow key mode) (made : List Entry)
          (added : made ≡ entries ++ record { flow = flow; event = Wait key mode } ∷ []) where
        pub waits-running : AreFields meaning (Moved new locks made r.live)
        waits-running = record {
          given = is.given;
          after = subst (λ (es : List Entry). IsAfter setup (plans_of r) es (slice_set items flow.0 new) locks
              (cells_of r.cells)) (sym added)
              (moved-wait setup (plans_of r) is.given entries items r.table (cells_of r.cells) is.after flow key mode
              may place (read-there place wait-within read) new local session stands locks waits);
          live = is.live ∙ sym (live-still entries flow (Wait key mode) (length setup.items) refl) ∙ ap
              (λ (es : List Entry). live_in es (length setup.items)) (sym added);
          reads_ = is.reads_;
        }

        pub waits-added : AddsWait meaning (state_of r) (state_of (Moved new locks made r.live)) flow key mode
        waits-added = record { may = may; new_ = λ i. record (state_of r) { entries = added i } }

    module _ (key : Key) (coming : IsEventComing setup (plans_of r) items flow.0 (Drop key)) (place : Place)
        (read : place ≡ get_or items flow.0 place) where
      pub may-release-it : IsSome (holders_of r.table key flow.0)
      may-release-it = let after = is.after in let (held, e) =
          may-release setup entries legal r.table after.table flow.0 key (next-is (Drop key) coming place read) in rw e
          refl

      pub drop-moved : (new : Place) → HasPlan (plans_of r) setup.items flow.0
          (λ plan. Advances plan (matches_in setup) place.local new.local)
          → new.session ≡ place.session → new.stands ≡ place.stands → (locks : Locks)
          → Releases r.table locks flow.0 key
          → HasMoved setup (plans_of r) is.given entries items r.table (cells_of r.cells) is.after flow (Drop key) new
          locks (cells_of r.cells)
      drop-moved new made session stands locks releases =
          moved-drop setup (plans_of r) is.given entries items r.table (cells_of r.cells) is.after flow key
          (there (Drop key) coming place read) new
          (made-at (Drop key) coming place read new made session) stands locks releases
