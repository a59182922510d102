-- The last entry of a flow: there is one or none, and no two.
use Rattle.std.proofs.Common.{◌≡◌, ◌⊎◌, inl, inr, ℕ, zero, suc, Bool, cond, List, [], ◌∷◌, ◌++◌, length, refl, sym, ap, ◌∙◌, append_assoc, arith}
use Rattle.std.proofs.lemmas.Bool.{cases_eq, ne_eqb}
use Rattle.flux_values.specs.declared.answers.Mode.{Mode}
use Rattle.flux_model.specs.declared.items.FlowNo.{FlowNo}
use Rattle.flow_model.specs.declared.journals.Key.{Key}
use Rattle.flow_model.specs.declared.journals.Entry.{Entry}
use Rattle.flow_model.specs.declared.journals.Event.{Event}
use Rattle.flow_model.specs.declared.journals.Event.TheVariants.{Take, Wait, Enter, Choose, Call, Exit, Drop, End}
use Rattle.flow_model.specs.Events.{events_by}
use Rattle.flow_model.specs.Waits.{IsLast, StandsAt}
use Rattle.flow_model.proofs.Keys.{key_cases}
use Rattle.flux_laws.proofs.OwnEvents.{events_by-append, by_itself}

-- a last entry of a flow
pub record HasLast (entries : List Entry) (flow : ℕ) : Type 0 where
  pub event : Event
  pub place : ℕ
  pub last : IsLast entries (record { 0 = flow }) event place

last-behind : (entry : Entry) (entries : List Entry) (flow : ℕ) → HasLast entries flow → HasLast (entry ∷ entries) flow
last-behind entry entries flow has = let l = has.last in record {
  event = has.event;
  place = suc has.place;
  last = record { before = entry ∷ l.before; after = l.after; stands = ap (λ es. entry ∷ es) l.stands; last = l.last; at = ap suc l.at };
}

-- a flow has no entry, or a last one
last_or_none : (entries : List Entry) (flow : ℕ) → (events_by flow entries ≡ []) ⊎ HasLast entries flow
last_or_none [] flow = inl refl
last_or_none (entry ∷ entries) flow = by (last_or_none entries flow)
  where
    here : events_by flow entries ≡ [] → (entry.flow.0 ≡ flow) ⊎ (entry.flow.0 ≡ flow → ⊥) → (events_by flow (entry ∷ entries) ≡ []) ⊎ HasLast (entry ∷ entries) flow
    here none (inl same) = inr (record {
      event = entry.event;
      place = zero;
      last = record { before = []; after = entries; stands = λ i. record { flow = record { 0 = same i }; event = entry.event } ∷ entries; last = none; at = refl };
    })
    here none (inr apart) = inl (ap (λ (b : Bool). cond b (entry.event ∷ events_by flow entries) (events_by flow entries)) (ne_eqb entry.flow.0 flow apart) ∙ none)

    by : (events_by flow entries ≡ []) ⊎ HasLast entries flow → (events_by flow (entry ∷ entries) ≡ []) ⊎ HasLast (entry ∷ entries) flow
    by (inl none) = here none (cases_eq entry.flow.0 flow)
    by (inr has) = inr (last-behind entry entries flow has)

-- a flow has entries where there is one of its own
pub some-stands : (before after : List Entry) (flow : FlowNo) (event : Event) → events_by flow.0 (before ++ record { flow = flow; event = event } ∷ after) ≡ [] → ⊥
some-stands before after flow event none = by (events_by flow.0 before) (sym split ∙ none)
  where
    split : events_by flow.0 (before ++ record { flow = flow; event = event } ∷ after) ≡ events_by flow.0 before ++ (event ∷ []) ++ events_by flow.0 after
    split =
        ap (events_by flow.0) (sym (append_assoc before (record { flow = flow; event = event } ∷ []) after))
        ∙ events_by-append flow.0 (before ++ record { flow = flow; event = event } ∷ []) after
        ∙ ap (λ es. es ++ events_by flow.0 after)
        (events_by-append flow.0 before (record { flow = flow; event = event } ∷ []) ∙ ap (λ es. events_by flow.0 before ++ es) (by_itself flow.0 event))

    by : (list : List Event) → list ++ (event ∷ []) ++ events_by flow.0 after ≡ [] → ⊥
    by [] e = cc
    by (x ∷ list) e = cc

one-last : (flow : FlowNo) (a b : Event) (before after other rest : List Entry) → before ++ record { flow = flow; event = a } ∷ after ≡ other ++ record { flow = flow; event = b } ∷ rest
    → events_by flow.0 after ≡ [] → events_by flow.0 rest ≡ [] → (a ≡ b) × (length before ≡ length other)
one-last flow a b [] after [] rest e none nothing =
    let head : ◌≡◌ {A = Entry} (record { flow = flow; event = a }) (record { flow = flow; event = b }) = cc in
    (ap (λ (x : Entry). x.event) head, refl)
one-last flow a b [] after (x ∷ other) rest e none nothing =
    let there : after ≡ other ++ record { flow = flow; event = b } ∷ rest = cc in
    absurd (some-stands other rest flow b (rw there at none))
one-last flow a b (x ∷ before) after [] rest e none nothing =
    let there : rest ≡ before ++ record { flow = flow; event = a } ∷ after = cc in
    absurd (some-stands before after flow a (rw there at nothing))
one-last flow a b (x ∷ before) after (y ∷ other) rest e none nothing =
    let more = one-last flow a b before after other rest (cc) none nothing in
    (more.0, ap suc more.1)

-- two last entries are one
pub last-unique : (entries : List Entry) (flow : FlowNo) (a b : Event) (place other : ℕ) → IsLast entries flow a place → IsLast entries flow b other → (a ≡ b) × (place ≡ other)
last-unique entries flow a b place other one two =
    let same = one-last flow a b one.before one.after two.before two.after (sym one.stands ∙ two.stands) one.last two.last in
    (same.0, sym one.at ∙ same.1 ∙ two.at)

-- one entry is at a place
pub same-place : (before other after rest : List Entry) (a b : Entry) → before ++ a ∷ after ≡ other ++ b ∷ rest → length before ≡ length other → a ≡ b
same-place [] [] after rest a b e same = cc
same-place [] (x ∷ other) after rest a b e same = absurd (omega (arith, same))
same-place (x ∷ before) [] after rest a b e same = absurd (omega (arith, same))
same-place (x ∷ before) (y ∷ other) after rest a b e same = same-place before other after rest a b (cc) (omega (arith, same))

-- ---- standing at a key

-- at some place, in some mode
abbrev pub StandsSomewhere : List Entry → ℕ → Key → Type 0
StandsSomewhere entries flow key = (own : Mode) × (place : ℕ) × StandsAt entries flow key own place

stands-by : (entries : List Entry) (flow : ℕ) (key : Key) (event : Event) (place : ℕ) → IsLast entries (record { 0 = flow }) event place
    → StandsSomewhere entries flow key ⊎ ((own : Mode) (other : ℕ) → event ≡ Wait key own → ⊥)
stands-by entries flow key (Wait k mode) place last =
    key_cases k key (λ same _. inl (mode, place, rw same at last)) (λ _ apart. inr (λ own other e. apart (cc)))
stands-by entries flow key (Take k mode) place last = inr (λ own other e. cc)
stands-by entries flow key (Enter node) place last = inr (λ own other e. cc)
stands-by entries flow key (Choose n) place last = inr (λ own other e. cc)
stands-by entries flow key (Call made) place last = inr (λ own other e. cc)
stands-by entries flow key (Exit node outcome) place last = inr (λ own other e. cc)
stands-by entries flow key (Drop k) place last = inr (λ own other e. cc)
stands-by entries flow key (End outcome) place last = inr (λ own other e. cc)

-- a flow waits at a key or not
pub stands_or_not : (entries : List Entry) (flow : ℕ) (key : Key) → StandsSomewhere entries flow key ⊎ (StandsSomewhere entries flow key → ⊥)
stands_or_not entries flow key = by (last_or_none entries flow)
  where
    told : (has : HasLast entries flow) → StandsSomewhere entries flow key ⊎ ((own : Mode) (other : ℕ) → has.event ≡ Wait key own → ⊥)
        → StandsSomewhere entries flow key ⊎ (StandsSomewhere entries flow key → ⊥)
    told has (inl stands) = inl stands
    told has (inr no_wait) = inr (λ there. no_wait there.0 there.1 (let same = last-unique entries (record { 0 = flow }) has.event (Wait key there.0) has.place there.1 has.last there.2 in same.0))

    by : (events_by flow entries ≡ []) ⊎ HasLast entries flow → StandsSomewhere entries flow key ⊎ (StandsSomewhere entries flow key → ⊥)
    by (inl none) = inr (λ there. let l = there.2 in some-stands l.before l.after (record { 0 = flow }) (Wait key there.0) (let s = l.stands in rw s at none))
    by (inr has) = told has (stands-by entries flow key has.event has.place has.last)
