-- One entry more: where flows wait after it.
use Rattle.std.proofs.Common.{◌≡◌, ◌⊎◌, inl, inr, ℕ, zero, suc, Bool, true, false, cond, eqb, List, [], ◌∷◌, ◌++◌, length, refl, sym, ap, subst, ◌∙◌}
use Rattle.std.proofs.lemmas.Bool.{false≢true, eqb-true}
use Rattle.std.proofs.lemmas.List.{append-nil}
use Rattle.flux_values.specs.declared.answers.Mode.{Mode}
use Rattle.flux_model.specs.declared.items.FlowNo.{FlowNo}
use Rattle.flow_model.specs.declared.journals.Key.{Key}
use Rattle.flow_model.specs.declared.journals.Entry.{Entry}
use Rattle.flow_model.specs.declared.journals.Event.{Event}
use Rattle.flow_model.specs.declared.journals.Event.TheVariants.{Take, Wait, Enter, Choose, Call, Exit, Drop, End}
use Rattle.flow_model.specs.Events.{events_by}
use Rattle.flow_model.specs.Waits.{IsLast, StandsAt, IsNoWaitLast}
use Rattle.flux_laws.proofs.Members.{IsEnd, InFront, end_or_front}
use Rattle.flux_laws.proofs.OwnEvents.{events_by-append, by_itself, by_another}
use Rattle.flux_laws.proofs.Apart.{stands-front}
use Rattle.flux_laws.proofs.Lasting.{last-unique}
use Rattle.flow_state.specs.steps.Places.{is_wait, ends_waiting}

-- the events of the entry's flow, and those of others
pub events-own : (entries : List Entry) (flow : ℕ) (event : Event)
    → events_by flow (entries ++ record { flow = record { 0 = flow }; event = event } ∷ []) ≡ events_by flow entries
    ++ event ∷ []
events-own entries flow event =
    events_by-append flow entries (record { flow = record { 0 = flow }; event = event } ∷ []) ∙ ap
    (λ es. events_by flow entries ++ es) (by_itself flow event)

pub events-other : (entries : List Entry) (flow : FlowNo) (event : Event) (other : ℕ) → (flow.0 ≡ other → ⊥)
    → events_by other (entries ++ record { flow = flow; event = event } ∷ []) ≡ events_by other entries
events-other entries flow event other apart =
    events_by-append other entries (record { flow = flow; event = event } ∷ []) ∙ ap
    (λ es. events_by other entries ++ es) (by_another flow other event apart)
    ∙ append-nil (events_by other entries)

module _ (entries : List Entry) (flow : FlowNo) (event : Event) where
  abbrev more : List Entry
  more = entries ++ record { flow = flow; event = event } ∷ []

  -- the flow's last entry is this one
  last-own : IsLast more flow event (length entries)
  last-own = record { before = entries; after = []; stands = refl; last = refl; at = refl }

  -- so where it waits, it waits by this entry
  pub stands-own : (key : Key) (mode : Mode) (place : ℕ) → StandsAt more flow.0 key mode place
      → (event ≡ Wait key mode) × (length entries ≡ place)
  stands-own key mode place stands = last-unique more flow event (Wait key mode) (length entries) place last-own stands

  pub stands-here : (key : Key) (mode : Mode) → event ≡ Wait key mode → StandsAt more flow.0 key mode (length entries)
  stands-here key mode is = subst (λ (e : Event). IsLast more flow e (length entries)) is last-own

  module _ (other : ℕ) (apart : flow.0 ≡ other → ⊥) where
    -- other flows wait where they did
    pub stands-still : (key : Key) (mode : Mode) (place : ℕ) → StandsAt entries other key mode place
        → StandsAt more other key mode place
    stands-still key mode place stands = record {
      before = stands.before;
      after = stands.after ++ record { flow = flow; event = event } ∷ [];
      stands = stands-front entries (record { flow = flow; event = event } ∷ []) stands.before stands.after
          (record { 0 = other }) (Wait key mode) stands.stands;
      last = events-other stands.after flow event other apart ∙ stands.last;
      at = stands.at;
    }

    pub stood-before : (key : Key) (mode : Mode) (place : ℕ) → StandsAt more other key mode place
        → StandsAt entries other key mode place
    stood-before key mode place stands =
        by (end_or_front entries (record { flow = flow; event = event }) stands.before
        (record { flow = record { 0 = other }; event = Wait key mode }) stands.after stands.stands)
      where
        by : IsEnd entries (record { flow = flow; event = event }) stands.before
            (record { flow = record { 0 = other }; event = Wait key mode }) stands.after
            ⊎ InFront entries (record { flow = flow; event = event }) stands.before
            (record { flow = record { 0 = other }; event = Wait key mode }) stands.after
            → StandsAt entries other key mode place
        by (inl end) = absurd (apart (ap (λ (e : Entry). e.flow.0) end.same))
        by (inr front) = record {
          before = stands.before;
          after = front.rest;
          stands = front.front;
          last = sym (events-other front.rest flow event other apart) ∙ ap (events_by other) (sym front.after_is)
              ∙ stands.last;
          at = stands.at;
        }

-- ---- whether a flow's last entry is a wait

pub waiting-last : (before : Bool) (events : List Event) (event : Event)
    → ends_waiting before (events ++ event ∷ []) ≡ is_wait event
waiting-last before [] event = refl
waiting-last before (first ∷ events) event = waiting-last (is_wait first) events event

-- a flow waits at some key
abbrev pub StandsAnywhere : List Entry → ℕ → Type 0
StandsAnywhere entries flow = (key : Key) × (mode : Mode) × (place : ℕ) × StandsAt entries flow key mode place

stands-further : (entry : Entry) (entries : List Entry) (flow : ℕ) → StandsAnywhere entries flow
    → StandsAnywhere (entry ∷ entries) flow
stands-further entry entries flow (key, mode, place, s) = (
  key,
  mode,
  suc place,
  record {
    before = entry ∷ s.before;
    after = s.after;
    stands = ap (λ es. entry ∷ es) s.stands;
    last = s.last;
    at = ap suc s.at;
  },
)

stands-first : (entry : Entry) (entries : List Entry) (flow : ℕ) (event : Event)
    → entry ≡ record { flow = record { 0 = flow }; event = event } → is_wait event ≡ true → events_by flow entries ≡ []
    → StandsAnywhere (entry ∷ entries) flow
stands-first entry entries flow (Wait key mode) same waits none = (
  key,
  mode,
  zero,
  record {
    before = [];
    after = entries;
    stands = ap (λ e. e ∷ entries) same;
    last = none;
    at = refl;
  },
)
stands-first entry entries flow (Take key mode) same waits none = absurd (cc)
stands-first entry entries flow (Enter node) same waits none = absurd (cc)
stands-first entry entries flow (Choose n) same waits none = absurd (cc)
stands-first entry entries flow (Call made) same waits none = absurd (cc)
stands-first entry entries flow (Exit node outcome) same waits none = absurd (cc)
stands-first entry entries flow (Drop key) same waits none = absurd (cc)
stands-first entry entries flow (End outcome) same waits none = absurd (cc)

waiting-from : (entries : List Entry) (flow : ℕ) (before : Bool) → ends_waiting before (events_by flow entries) ≡ true
    → ((before ≡ true) × (events_by flow entries ≡ [])) ⊎ StandsAnywhere entries flow
waiting-from [] flow before waits = inl (waits, refl)
waiting-from (entry ∷ entries) flow before waits = by (eqb entry.flow.0 flow) refl waits (waiting-from entries flow)
  where
    further : (first : Bool) → first ≡ is_wait entry.event → entry.flow.0 ≡ flow
        → ((first ≡ true) × (events_by flow entries ≡ [])) ⊎ StandsAnywhere entries flow
        → StandsAnywhere (entry ∷ entries) flow
    further first is same (inl (waits, none)) =
        stands-first entry entries flow entry.event (λ i. record { flow = record { 0 = same i }; event = entry.event })
        (sym is ∙ waits) none
    further first is same (inr there) = stands-further entry entries flow there

    by : (own : Bool) → eqb entry.flow.0 flow ≡ own → ends_waiting before
        (cond own (entry.event ∷ events_by flow entries) (events_by flow entries)) ≡ true
        → ((b : Bool) → ends_waiting b (events_by flow entries) ≡ true
        → ((b ≡ true) × (events_by flow entries ≡ [])) ⊎ StandsAnywhere entries flow)
        → ((before ≡ true) × (cond own (entry.event ∷ events_by flow entries) (events_by flow entries) ≡ [])) ⊎
        StandsAnywhere (entry ∷ entries) flow
    by true is waits more = inr (further (is_wait entry.event) refl (eqb-true entry.flow.0 flow is)
        (more (is_wait entry.event) waits))
    by false is waits more = other (more before waits)
      where
        other : ((before ≡ true) × (events_by flow entries ≡ [])) ⊎ StandsAnywhere entries flow
            → ((before ≡ true) × (events_by flow entries ≡ [])) ⊎ StandsAnywhere (entry ∷ entries) flow
        other (inl none) = inl none
        other (inr there) = inr (stands-further entry entries flow there)

-- where it is, the flow waits at a key
pub waiting-stands : (entries : List Entry) (flow : ℕ) → ends_waiting false (events_by flow entries) ≡ true
    → StandsAnywhere entries flow
waiting-stands entries flow waits = by (waiting-from entries flow false waits)
  where
    by : ((false ≡ true) × (events_by flow entries ≡ [])) ⊎ StandsAnywhere entries flow → StandsAnywhere entries flow
    by (inl (never, none)) = absurd (false≢true never)
    by (inr there) = there

-- and where it isn't, it waits nowhere
pub not_waiting-nowhere : (entries : List Entry) (flow : ℕ) → ends_waiting false (events_by flow entries) ≡ false
    → (key : Key) (mode : Mode) (place : ℕ) → StandsAt entries flow key mode place → ⊥
not_waiting-nowhere entries flow none key mode place stands =
    false≢true (sym none ∙ ap (λ es. ends_waiting false (events_by flow es)) stands.stands ∙ ap (ends_waiting false)
    split ∙ waiting-last false (events_by flow stands.before) (Wait key mode))
  where
    own : List Entry
    own = record { flow = record { 0 = flow }; event = Wait key mode } ∷ []

    split : events_by flow (stands.before ++ record {
      flow = record { 0 = flow };
      event = Wait key mode;
    } ∷ stands.after) ≡ events_by flow stands.before ++ Wait key mode ∷ []
    split =
        events_by-append flow stands.before (record {
          flow = record { 0 = flow };
          event = Wait key mode;
        } ∷ stands.after)
        ∙ ap (λ es. events_by flow stands.before ++ es)
        (events_by-append flow (record { flow = record { 0 = flow }; event = Wait key mode } ∷ []) stands.after
        ∙ ap (λ es. es ++ events_by flow stands.after) (by_itself flow (Wait key mode)) ∙ ap (λ es. Wait key mode ∷ es)
        stands.last)

pub not_waiting-last : (entries : List Entry) (flow : FlowNo) → ends_waiting false (events_by flow.0 entries) ≡ false
    → IsNoWaitLast entries flow
not_waiting-last entries flow none key mode place last = not_waiting-nowhere entries flow.0 none key mode place last
