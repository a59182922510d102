-- Flows that have made nothing.
use Rattle.std.proofs.Common.{◌≡◌, ◌<◌, ℕ, zero, suc, List, [], ◌∷◌, ◌++◌, length, take, get_or, ◌+◌, Option, Some, None, refl, sym, ap, subst, ◌∙◌, arith}
use Rattle.std.specs.List.{slice_get}
use Rattle.flux_values.specs.Meanings.{LibraryMeaning}
use Rattle.flux_library.specs.Libraries.{IsLawful}
use Rattle.flux_model.specs.declared.programs.Program.{Program}
use Rattle.flux_model.specs.declared.programs.SourceLine.{SourceLine}
use Rattle.flux_model.specs.declared.items.Item.{Item}
use Rattle.flow_model.specs.declared.journals.Key.{Key}
use Rattle.flow_model.specs.declared.journals.Entry.{Entry}
use Rattle.flow_model.specs.declared.journals.Event.TheVariants.{Wait}
use Rattle.flux_values.specs.declared.answers.Mode.{Mode}
use Rattle.flow_model.specs.Setup.{Setup, item_of}
use Rattle.flow_model.specs.Flows.{given_for}
use Rattle.flow_model.specs.Waits.{StandsAt}
use Rattle.std.specs.Prelude.{IsSome}
use Rattle.flux_model.specs.Items.{IsItemOf, IsItemFor}
use Rattle.flux_laws.proofs.Members.{all-get}
use Rattle.flux_laws.proofs.Added.{nothing_is_legal}
use Rattle.flux_laws.proofs.Locks.{locks_are_there}
use Rattle.flux_plan.specs.declared.plans.Plan.{Plan}
use Rattle.flux_plan.specs.Machine.{Position, fresh}
use Rattle.flux_plan.specs.Flows.{IsAt}
use Rattle.flux_plan.specs.Runs.{IsPlanOf}
use Rattle.std.proofs.lemmas.Option.{slice_get_within}
use Rattle.flux_plan.proofs.Following.{reached-fresh}
use Rattle.flux_cells.specs.Kept.{cells_of}
use Rattle.flow_state.specs.declared.places.Place.{Place}
use Rattle.flow_state.specs.declared.fields.Fields.{Fields}
use Rattle.flow_state.specs.States.{setup_at, MayRun}
use Rattle.flow_state.specs.steps.Starts.{IsFreshPlace, AreFreshPlaces}
use Rattle.flow_state.specs.steps.Places.{IsPlaceOf, ArePlaces}
use Rattle.flow_state.specs.steps.Table.{IsTable}
use Rattle.flow_state.specs.steps.Cells.{classes_read}
use Rattle.flow_state.specs.steps.Fields.{state_of, plans_of, IsGiven, IsAfter, AreFields}
use Rattle.flow_state.proofs.Ended.{live_in, live-all}
use Rattle.flow_state.proofs.AtPlaces.{has-line, line-plan}

-- ---- lists of places

pub fresh-more : (meaning : LibraryMeaning) (p : Program) (items : List Item) (places : List Place) (item : Item)
    (place : Place) → AreFreshPlaces meaning p items places → IsFreshPlace meaning p item place
    → AreFreshPlaces meaning p (items ++ item ∷ []) (places ++ place ∷ [])
fresh-more meaning p [] [] item place are is = (is, tt)
fresh-more meaning p [] (q ∷ places) item place are is = absurd are
fresh-more meaning p (i ∷ items) [] item place are is = absurd are
fresh-more meaning p (i ∷ items) (q ∷ places) item place (own, are) is =
    (own, fresh-more meaning p items places item place are is)

take-next : (items : List Item) (i : ℕ) (item : Item) → i < length items → item ≡ get_or items i item
    → take (i + 1) items ≡ take i items ++ item ∷ []
take-next [] i item lt is = absurd (omega (arith, lt))
take-next (x ∷ items) zero item lt is = ap (λ (y : Item). y ∷ []) (sym is)
take-next (x ∷ items) (suc i) item lt is =
    let next : suc i + 1 ≡ suc (i + 1) = omega arith in
    ap (λ (n : ℕ). take n (x ∷ items)) next ∙ ap (λ (xs : List Item). x ∷ xs)
    (take-next items i item (omega (arith, lt)) is)

pub fresh-next : (meaning : LibraryMeaning) (p : Program) (items read : List Item) (places new : List Place) (i : ℕ)
    (item : Item) (place : Place) → read ≡ items → i < length read → item ≡ get_or read i item
    → AreFreshPlaces meaning p (take i items) places → IsFreshPlace meaning p item place → new ≡ places ++ place ∷ []
    → AreFreshPlaces meaning p (take (i + 1) items) new
fresh-next meaning p items read places new i item place same lt is are own added =
    let lt_ : i < length items = subst (λ (xs : List Item). i < length xs) same lt in
    let is_ : item ≡ get_or items i item = subst (λ (xs : List Item). item ≡ get_or xs i item) same is in
    subst (λ (ps : List Place). AreFreshPlaces meaning p (take (i + 1) items) ps) (sym added)
    (subst (λ (xs : List Item). AreFreshPlaces meaning p xs (places ++ place ∷ []))
    (sym (take-next items i item lt_ is_)) (fresh-more meaning p (take i items) places item place are own))

fresh-count : (meaning : LibraryMeaning) (p : Program) (items : List Item) (places : List Place)
    → AreFreshPlaces meaning p items places → length places ≡ length items
fresh-count meaning p [] [] are = refl
fresh-count meaning p [] (q ∷ places) are = absurd are
fresh-count meaning p (i ∷ items) [] are = absurd are
fresh-count meaning p (i ∷ items) (q ∷ places) (own, are) = ap suc (fresh-count meaning p items places are)

fresh-at : (meaning : LibraryMeaning) (p : Program) (items : List Item) (places : List Place)
    → AreFreshPlaces meaning p items places → (flow : ℕ) (place : Place) → slice_get places flow ≡ Some place
    → (item : Item) × (slice_get items flow ≡ Some item) × IsFreshPlace meaning p item place
fresh-at meaning p [] [] are flow place at = absurd cc
fresh-at meaning p [] (q ∷ places) are flow place at = absurd are
fresh-at meaning p (i ∷ items) [] are flow place at = absurd are
fresh-at meaning p (i ∷ items) (q ∷ places) (own, are) zero place at = let same : q ≡ place =
    cc in (i, refl, subst (IsFreshPlace meaning p i) same own)
fresh-at meaning p (i ∷ items) (q ∷ places) (own, are) (suc flow) place at =
    fresh-at meaning p items places are flow place at

-- ---- no entries

module _ (setup : Setup) (plans : List Plan) (given : IsGiven setup plans) where
  opened-place : (flow : ℕ) (item : Item) (place : Place) → item_of setup flow ≡ Some item → flow < length setup.items
      → IsFreshPlace setup.meaning setup.program item place → IsPlaceOf setup plans [] flow place
  opened-place flow item place is_item within own =
      let has = has-line setup plans given flow within in
      let item_same : has.item ≡ item = let e = sym has.is_item ∙ is_item in cc in
      let line_same : has.line ≡ own.line = let e = sym has.is_line ∙ ap
      (λ (i : Item). slice_get setup.program.sources i.source.0) item_same ∙ own.is_line in cc in
      let given_ = given_for setup item own.line in
      let at : IsAt setup has.plan [] flow (fresh item.values) = record {
        item = item;
        is_item = is_item;
        line = own.line;
        is_line = own.is_line;
        is_plan = subst (λ (l : SourceLine). IsPlanOf setup.program l.target has.plan) line_same has.of_;
        has = reached-fresh has.plan given_.key given_.matches item.values;
      } in
      record {
        item = item;
        is_item = is_item;
        line = own.line;
        is_line = own.is_line;
        plan = has.plan;
        is_plan = line-plan setup plans flow has;
        at = subst (λ (p : Position). IsAt setup has.plan [] flow p) (sym own.local) at;
        session = own.session;
        stands = own.stands;
      }

  pub opened-places : (places : List Place) → AreFreshPlaces setup.meaning setup.program setup.items places
      → ArePlaces setup plans [] places
  opened-places places are = record {
    count = fresh-count setup.meaning setup.program setup.items places are;
    each = λ flow place at.
        let (item, is_item, own) = fresh-at setup.meaning setup.program setup.items places are flow place at in
        opened-place flow item place is_item (slice_get_within setup.items flow item is_item) own;
  }

no-stand : (flow : ℕ) (key : Key) (mode : Mode) (place : ℕ) → StandsAt [] flow key mode place → ⊥
no-stand flow key mode place stands = by stands.before stands.after stands.stands
  where
    by : (before after : List Entry) → [] ≡ before ++ record {
      flow = record { 0 = flow };
      event = Wait key mode;
    } ∷ after → ⊥
    by [] after e = cc
    by (x ∷ before) after e = cc

opened-table : IsTable [] []
opened-table = record {
  holders = λ key flow. refl;
  lines = λ key. record { all = λ flow mode place stands. absurd (no-stand flow.0 key mode place stands); order = tt };
}

pub opened-given : (meaning : LibraryMeaning) (setup : Setup) (plans : List Plan) → setup.meaning ≡ meaning
    → IsLawful meaning → MayRun meaning setup.program plans setup.items → IsGiven setup plans
opened-given meaning setup plans same lawful may = record {
  lawful = subst IsLawful (sym same) lawful;
  kinds = may.kinds;
  sound = rw same may.sound;
  fit = may.fit;
  few = may.few;
  plans_ = may.plans_;
}

pub opened-running : {L : Type 0} (meaning : L → LibraryMeaning) (r : Fields L)
    → IsGiven (setup_at meaning (state_of r)) (plans_of r) → r.made ≡ []
    → (let setup = setup_at meaning (state_of r) in let places =
    r.places in AreFreshPlaces setup.meaning setup.program setup.items places.items) → r.table ≡ []
    → (let setup = r.setup in cells_of r.cells ≡ cells_of setup.opening)
    → (let setup = r.setup in r.live ≡ length setup.items)
    → (let setup = setup_at meaning (state_of r) in r.reads ≡ classes_read setup.meaning setup.program)
    → AreFields meaning r
opened-running {L} meaning r given none are_fresh no_locks same live reads =
    let setup : Setup = setup_at meaning (state_of r) in
    let places = r.places in
    let sound = given.sound in
    let own = r.setup in
    record {
      given = given;
      after = subst (λ (es : List Entry). IsAfter setup (plans_of r) es places.items r.table (cells_of r.cells))
          (sym none) (record {
            legal = nothing_is_legal setup (locks_are_there setup.program sound.numbered sound.acyclic);
            places_ = opened-places setup (plans_of r) given places.items are_fresh;
            table = subst (IsTable []) (sym no_locks) opened-table;
            cells_ = same;
          });
      live = live ∙ sym (live-all (length own.items)) ∙ ap (λ (es : List Entry). live_in es (length own.items))
          (sym none);
      reads_ = reads;
    }

pub may-sources : (meaning : LibraryMeaning) (p : Program) (plans : List Plan) (items : List Item)
    → MayRun meaning p plans items → (flow : ℕ) (item : Item) → slice_get items flow ≡ Some item
    → IsSome (slice_get p.sources item.source.0)
may-sources meaning p plans items may flow item at = by (slice_get p.sources item.source.0)
    (all-get (IsItemFor p may.kinds) items flow item may.fit at)
  where
    by : (found : Option SourceLine) → IsItemOf may.kinds found item.values → IsSome found
    by None fits = absurd fits
    by (Some line) fits = refl
