-- Flows at their places: what comes next there is what comes next in the journal; and one entry more.
use Rattle.std.proofs.Common.{◌≡◌, ◌<◌, ◌⊎◌, inl, inr, ℕ, Bool, true, false, List, [], ◌∷◌, ◌++◌, length, Option, Some, None, refl, sym, ap, subst, ◌∙◌}
use Rattle.std.specs.List.{slice_get, slice_set, flat_map}
use Rattle.std.proofs.lemmas.List.{append-nil}
use Rattle.flux_values.specs.declared.answers.Mode.{Mode}
use Rattle.flux_values.specs.declared.answers.Answer.{Answer}
use Rattle.flux_model.specs.declared.programs.ClassNo.{ClassNo}
use Rattle.flux_model.specs.declared.programs.NodeNo.{NodeNo}
use Rattle.flux_model.specs.declared.programs.SourceLine.{SourceLine}
use Rattle.flux_model.specs.declared.items.FlowNo.{FlowNo}
use Rattle.flow_model.specs.declared.journals.Key.{Key}
use Rattle.flux_model.specs.declared.items.Item.{Item}
use Rattle.flow_model.specs.declared.journals.Entry.{Entry}
use Rattle.flow_model.specs.declared.journals.Event.{Event}
use Rattle.flow_model.specs.declared.journals.Event.TheVariants as events
use Rattle.flow_model.specs.Setup.{Setup, item_of}
use Rattle.flow_model.specs.Keys.{class_key, session_number}
use Rattle.flow_model.specs.CellsAfter.{key_on, key_for}
use Rattle.flow_model.specs.Walk.{Given}
use Rattle.flow_model.specs.Flows.{given_for}
use Rattle.flux_model.specs.Items.{IsItemOf, IsItemFor}
use Rattle.flow_model.specs.Events.{answer_in, unless_wait, events_by, own_events, own_answers, IsNext, CallIsNext}
use Rattle.flow_model.specs.Legal.{IsLegal}
use Rattle.flux_laws.specs.Growth.{has_ended}
use Rattle.flux_laws.proofs.Members.{all-get, get-within}
use Rattle.flux_laws.proofs.NextEvents.{own_events-more, own_answers-more, next-plain}
use Rattle.flux_plan.specs.declared.plans.Plan.{Plan}
use Rattle.flux_plan.specs.declared.locals.Next.{Next}
use Rattle.flux_plan.specs.declared.locals.Next.TheVariants as nexts
use Rattle.flux_plan.specs.Machine.{Position, values_at}
use Rattle.flux_plan.specs.Moves.{next_in, IsEvent, called_in, IsReached, Advances, IsAnswered}
use Rattle.flux_plan.specs.Runs.{IsPlanOf}
use Rattle.flux_plan.specs.Flows.{IsAt}
use Rattle.flux_plan.proofs.Following.{events_for, reached-some, next-called, plan-of_line, flow-next, flow-calls, flow-ended, at-later, at-advanced, at-answered}
use Rattle.flow_state.specs.declared.places.Place.{Place}
use Rattle.flow_state.specs.steps.Places.{matches_in, plan_of_item, HasPlan, MayAdvance, MayAnswer, key_in, is_wait, ends_waiting, IsPlaceOf, ArePlaces, event_for}
use Rattle.flow_state.specs.steps.Fields.{IsGiven}
use Rattle.flow_state.proofs.Entries.{events-own, events-other, waiting-last, waiting-stands, StandsAnywhere}
use Rattle.flow_state.proofs.Sets.{length-replaced, replaced-cases}
use Rattle.flow_state.proofs.Ended.{whole-has_ended}
use Rattle.flow_model.specs.Waits.{StandsAt}

-- ---- items and plans

-- each flow's item is of a source line, which has a plan
pub record HasLine (setup : Setup) (plans : List Plan) (flow : ℕ) : Type 0 where
  pub item : Item
  pub is_item : item_of setup flow ≡ Some item
  pub line : SourceLine
  pub is_line : slice_get setup.program.sources item.source.0 ≡ Some line
  pub plan : Plan
  pub is_plan : slice_get plans item.source.0 ≡ Some plan
  pub of_ : IsPlanOf setup.program line.target plan

pub has-line : (setup : Setup) (plans : List Plan) → IsGiven setup plans → (flow : ℕ) → flow < length setup.items
    → HasLine setup plans flow
has-line setup plans given flow within =
    let (item, is_item) = get-within setup.items flow within in
    by item is_item (slice_get setup.program.sources item.source.0) refl
    (all-get (IsItemFor setup.program given.kinds) setup.items flow item given.fit is_item)
  where
    by : (item : Item) → item_of setup flow ≡ Some item → (found : Option SourceLine)
        → slice_get setup.program.sources item.source.0 ≡ found → IsItemOf given.kinds found item.values
        → HasLine setup plans flow
    by item is_item None is fits = absurd fits
    by item is_item (Some line) is fits =
        let (plan, is_plan, of_) = plan-of_line setup.program setup.program.sources plans item.source.0 line
        given.plans_ is in
        record { item = item; is_item = is_item; line = line; is_line = is; plan = plan; is_plan = is_plan; of_ = of_ }

pub line-plan : (setup : Setup) (plans : List Plan) (flow : ℕ) (has : HasLine setup plans flow)
    → plan_of_item plans (item_of setup flow) ≡ Some has.plan
line-plan setup plans flow has = ap (plan_of_item plans) has.is_item ∙ has.is_plan

pub one-plan : (plans : List Plan) (found : Option Item) (a b : Plan) → plan_of_item plans found ≡ Some a
    → plan_of_item plans found ≡ Some b → a ≡ b
one-plan plans found a b one two = let e = sym one ∙ two in cc

-- ---- places

module _ (setup : Setup) (plans : List Plan) (entries : List Entry) (legal : IsLegal setup entries) (flow : ℕ)
    (place : Place) (is : IsPlaceOf setup plans entries flow place) where
  abbrev given_at : Given
  given_at = let at = is.at in given_for setup at.item at.line

  is-reached : IsReached is.plan (matches_in setup) place.local
  is-reached = let at = is.at in let item = at.item in
      reached-some is.plan given_at.key given_at.matches item.values (own_answers entries flow)
      (own_events entries flow) place.local at.has

  pub place-reached : HasPlan plans setup.items flow (λ plan. IsReached plan (matches_in setup) place.local)
  place-reached = record { plan = is.plan; is_plan = is.is_plan; holds = is-reached }

  -- its keys are those of the walk
  pub place-keys : key_in setup.program place.session ≡ given_at.key
  place-keys =
      let at = is.at in
      let item_is : is.item ≡ at.item = let e = sym is.is_item ∙ at.is_item in cc in
      let line_is : is.line ≡ at.line = let e = sym is.is_line ∙ ap
      (λ (i : Item). slice_get setup.program.sources i.source.0) item_is ∙ at.is_line in cc in
      let number : place.session ≡ (let line = at.line in let item =
      at.item in session_number setup.meaning line.session item.values) =
      is.session ∙ ap (λ (l : SourceLine). let item = is.item in session_number setup.meaning l.session item.values)
      line_is
      ∙ ap (λ (i : Item). let line = at.line in session_number setup.meaning line.session i.values) item_is in
      ap {B = ClassNo → Key} (λ session class. class_key (slice_get setup.program.classes class.0) class session) number

  pub place-key_for : (class : ClassNo) → key_for setup (item_of setup flow) class ≡ Some
      (key_in setup.program place.session class)
  place-key_for class =
      let at = is.at in
      ap (λ (i : Option Item). key_for setup i class) at.is_item ∙ ap
      (λ (l : Option SourceLine). key_on setup at.item l class) at.is_line
      ∙ ap (λ (key : ClassNo → Key). Some (key class)) (sym place-keys)

  event-is : (key : ClassNo → Key) (next : Next) (event : Event) → event_for key next ≡ Some event
      → (events_for key next ≡ event ∷ []) × IsEvent (Some next)
  event-is key (nexts.Take class mode) event e = let same : events.Take (key class) mode ≡ event =
      cc in (ap (λ (x : Event). x ∷ []) same, tt)
  event-is key (nexts.Enter node) event e = let same : events.Enter node ≡ event =
      cc in (ap (λ (x : Event). x ∷ []) same, tt)
  event-is key (nexts.Choose number) event e = let same : events.Choose number ≡ event =
      cc in (ap (λ (x : Event). x ∷ []) same, tt)
  event-is key (nexts.Exit node outcome) event e = let same : events.Exit node outcome ≡ event =
      cc in (ap (λ (x : Event). x ∷ []) same, tt)
  event-is key (nexts.Drop class) event e = let same : events.Drop (key class) ≡ event =
      cc in (ap (λ (x : Event). x ∷ []) same, tt)
  event-is key (nexts.End outcome) event e = let same : events.End outcome ≡ event =
      cc in (ap (λ (x : Event). x ∷ []) same, tt)
  event-is key (nexts.Call node) event e = absurd cc
  event-is key nexts.Ended event e = absurd cc

  module _ (next : Next) (coming : next_in is.plan (matches_in setup) place.local ≡ Some next) where
    own-event : (event : Event) → event_for (key_in setup.program place.session) next ≡ Some event
        → (events_for given_at.key next ≡ event ∷ []) × IsEvent (Some next)
    own-event event e = event-is given_at.key next event
        (ap (λ (key : ClassNo → Key). event_for key next) (sym place-keys) ∙ e)

    pub place-next : (event : Event) → event_for (key_in setup.program place.session) next ≡ Some event
        → IsNext setup entries flow event
    place-next event e =
        let (rest, all) = flow-next setup is.plan entries flow place.local legal.locks is.at next coming
        (own-event event e).1 in
        record {
          rest = rest;
          next = all ∙ ap (λ (es : List Event). own_events entries flow ++ (es ++ rest))
              (own-event event e).0;
        }

    pub place-calls : (node : NodeNo) → next ≡ nexts.Call node
        → CallIsNext setup entries flow node (values_at place.local)
    place-calls node e = flow-calls setup is.plan entries flow place.local legal.locks is.at node
        (next-called is.plan (matches_in setup) place.local node (coming ∙ ap Some e))

    pub place-ended : next ≡ nexts.Ended → has_ended entries flow ≡ true
    place-ended e = whole-has_ended setup entries flow
        (flow-ended setup is.plan entries flow place.local legal.locks is.at (coming ∙ ap Some e))

    pub place-may_advance : (event : Event) → event_for (key_in setup.program place.session) next ≡ Some event
        → HasPlan plans setup.items flow (λ plan. MayAdvance plan (matches_in setup) place.local)
    place-may_advance event e = record {
      plan = is.plan;
      is_plan = is.is_plan;
      holds = record { reached = is-reached; event = subst IsEvent (sym coming) (own-event event e).1 };
    }

  pub place-may_answer : (node : NodeNo) → called_in is.plan place.local ≡ Some node
      → HasPlan plans setup.items flow (λ plan. MayAnswer plan place.local)
  place-may_answer node called = record {
    plan = is.plan;
    is_plan = is.is_plan;
    holds = record { reached = record { matches = matches_in setup; reached = is-reached }; call = rw called refl };
  }

  -- ---- the same place later

  -- where the flow has made no event more
  pub place-later : (later : List Entry) (new : Place) → own_answers later flow ≡ own_answers entries flow
      → own_events later flow ≡ own_events entries flow
      → new.local ≡ place.local → new.session ≡ place.session
      → new.stands ≡ ends_waiting false (events_by flow later) → IsPlaceOf setup plans later flow new
  place-later later new answers own local session stands = record {
    item = is.item;
    is_item = is.is_item;
    line = is.line;
    is_line = is.is_line;
    plan = is.plan;
    is_plan = is.is_plan;
    at = subst (λ (p : Position). IsAt setup is.plan later flow p) (sym local)
        (at-later setup is.plan entries flow place.local legal.locks is.at later answers own);
    session = session ∙ is.session;
    stands = stands;
  }

  -- after the event that comes next
  pub place-advanced : (next : Next) → next_in is.plan (matches_in setup) place.local ≡ Some next → (event : Event)
      → event_for (key_in setup.program place.session) next ≡ Some event
      → (new : Place) → HasPlan plans setup.items flow (λ plan. Advances plan (matches_in setup) place.local new.local)
      → new.session ≡ place.session → new.stands ≡ false → is_wait event ≡ false
      → IsPlaceOf setup plans (entries ++ record { flow = record { 0 = flow }; event = event } ∷ []) flow new
  place-advanced next coming event e new made session stands no_wait =
      let later = entries ++ record { flow = record { 0 = flow }; event = event } ∷ [] in
      let own = own-event next coming event e in
      let is_next = place-next next coming event e in
      let plain = next-plain setup legal.locks entries flow event is_next in
      record {
        item = is.item;
        is_item = is.is_item;
        line = is.line;
        is_line = is.is_line;
        plan = is.plan;
        is_plan = is.is_plan;
        at = at-advanced setup is.plan entries flow place.local legal.locks is.at later next new.local coming
            (subst (λ (p : Plan). Advances p (matches_in setup) place.local new.local)
            (one-plan plans (item_of setup flow) made.plan is.plan made.is_plan is.is_plan) made.holds)
            (own_answers-more entries flow event ∙ ap (λ (as_ : List Answer). own_answers entries flow ++ as_)
            plain.quiet ∙ append-nil (own_answers entries flow))
            (own_events-more entries flow event ∙ ap (λ (es : List Event). own_events entries flow ++ es)
            (plain.own ∙ sym own.0));
        session = session ∙ is.session;
        stands = stands ∙ sym (ap (ends_waiting false) (events-own entries flow event) ∙ waiting-last false
            (events_by flow entries) event ∙ no_wait);
      }

  -- after the call that comes next
  pub place-answered : (node : NodeNo) (answer : Answer) → called_in is.plan place.local ≡ Some node → (new : Place)
      → HasPlan plans setup.items flow (λ plan. IsAnswered plan place.local answer new.local)
      → new.session ≡ place.session → new.stands ≡ false
      → IsPlaceOf setup plans (entries ++ record {
        flow = record { 0 = flow };
        event = events.Call (record { node = node; args = values_at place.local; answer = answer });
      } ∷ []) flow new
  place-answered node answer called new made session stands =
      let event : Event = events.Call (record { node = node; args = values_at place.local; answer = answer }) in
      let later = entries ++ record { flow = record { 0 = flow }; event = event } ∷ [] in
      record {
        item = is.item;
        is_item = is.is_item;
        line = is.line;
        is_line = is.is_line;
        plan = is.plan;
        is_plan = is.is_plan;
        at = at-answered setup is.plan entries flow place.local legal.locks is.at later node answer new.local called
            (subst (λ (p : Plan). IsAnswered p place.local answer new.local)
            (one-plan plans (item_of setup flow) made.plan is.plan made.is_plan is.is_plan) made.holds)
            (own_answers-more entries flow event) (own_events-more entries flow event);
        session = session ∙ is.session;
        stands = stands ∙ sym (ap (ends_waiting false) (events-own entries flow event) ∙ waiting-last false
            (events_by flow entries) event);
      }

  -- where the flow waits nowhere, its place says so
  pub place-nowhere : ((key : Key) (mode : Mode) (at : ℕ) → StandsAt entries flow key mode at → ⊥)
      → place.stands ≡ false
  place-nowhere nowhere = is.stands ∙ by (ends_waiting false (events_by flow entries)) refl
    where
      told : StandsAnywhere entries flow → ⊥
      told (key, mode, at, stands) = nowhere key mode at stands

      by : (b : Bool) → ends_waiting false (events_by flow entries) ≡ b → b ≡ false
      by true waits = absurd (told (waiting-stands entries flow waits))
      by false waits = refl

-- ---- all places

module _ (setup : Setup) (plans : List Plan) (given : IsGiven setup plans) (entries : List Entry) (places : List Place)
    (are : ArePlaces setup plans entries places) where
  -- with the same entries one place is replaced
  pub places-replaced : (flow : ℕ) (new : Place) → IsPlaceOf setup plans entries flow new
      → ArePlaces setup plans entries (slice_set places flow new)
  places-replaced flow new is = record {
    count = length-replaced places flow new ∙ are.count;
    each = λ other place at. by other place (replaced-cases places flow other new place at);
  }
    where
      by : (other : ℕ) (place : Place) → ((flow ≡ other) × (new ≡ place)) ⊎
          ((flow ≡ other → ⊥) × (slice_get places other ≡ Some place)) → IsPlaceOf setup plans entries other place
      by other place (inl (same, e)) = subst (λ (f : ℕ). IsPlaceOf setup plans entries f place) same
          (subst (λ (p : Place). IsPlaceOf setup plans entries flow p) e is)
      by other place (inr (apart, at)) = are.each other place at

  module _ (flow : FlowNo) (event : Event) (legal : IsLegal setup entries) where
    abbrev more : List Entry
    more = entries ++ record { flow = flow; event = event } ∷ []

    -- other flows stay at their places
    place-other : (other : ℕ) (place : Place) → (flow.0 ≡ other → ⊥) → IsPlaceOf setup plans entries other place
        → IsPlaceOf setup plans more other place
    place-other other place apart is =
        place-later setup plans entries legal other place is more place
        (own_answers-other other apart) (own_events-other other apart) refl refl
        (is.stands ∙ ap (ends_waiting false) (sym (events-other entries flow event other apart)))
      where
        own_answers-other : (other : ℕ) → (flow.0 ≡ other → ⊥) → own_answers more other ≡ own_answers entries other
        own_answers-other other apart = ap (flat_map answer_in) (events-other entries flow event other apart)

        own_events-other : (other : ℕ) → (flow.0 ≡ other → ⊥) → own_events more other ≡ own_events entries other
        own_events-other other apart = ap (flat_map unless_wait) (events-other entries flow event other apart)

    -- with one entry more its flow's place is replaced
    pub places-more : (new : Place) → IsPlaceOf setup plans more flow.0 new
        → ArePlaces setup plans more (slice_set places flow.0 new)
    places-more new is = record {
      count = length-replaced places flow.0 new ∙ are.count;
      each = λ other place at. by other place (replaced-cases places flow.0 other new place at);
    }
      where
        by : (other : ℕ) (place : Place) → ((flow.0 ≡ other) × (new ≡ place)) ⊎
            ((flow.0 ≡ other → ⊥) × (slice_get places other ≡ Some place)) → IsPlaceOf setup plans more other place
        by other place (inl (same, e)) = subst (λ (f : ℕ). IsPlaceOf setup plans more f place) same
            (subst (λ (p : Place). IsPlaceOf setup plans more flow.0 p) e is)
        by other place (inr (apart, at)) = place-other other place apart (are.each other place at)
