-- Where no take is made against what another flow holds, no two flows ever hold a key in conflict.
use Rattle.std.proofs.Common.{◌≡◌, ◌≢◌, ℕ, Bool, true, false, if◌then◌else◌, ◌⊎◌, inl, inr, List, [], ◌∷◌, ◌++◌, sym, ap, subst, ◌∙◌, append_assoc}
use Rattle.std.proofs.lemmas.Bool.{cases_eq}
use Rattle.std.proofs.lemmas.List.{append-nil}
use Rattle.flux_values.specs.declared.answers.Mode.{Mode}
use Rattle.flux_model.specs.declared.items.FlowNo.{FlowNo}
use Rattle.flow_model.specs.declared.journals.Key.{Key}
use Rattle.flow_model.specs.declared.journals.Entry.{Entry}
use Rattle.flow_model.specs.declared.journals.Event.{Event}
use Rattle.flow_model.specs.declared.journals.Event.TheVariants.{Take, Wait, Enter, Choose, Call, Exit, Drop, End}
use Rattle.flux_model.specs.Modes.{conflict}
use Rattle.flow_model.specs.Keys.{same_key}
use Rattle.flow_model.specs.Events.{Stands}
use Rattle.flow_model.specs.Exclusion.{without_first, held_after, modes_held, holds_against, TakesExclude}
use Rattle.flux_laws.proofs.Members.{In}
use Rattle.flow_model.proofs.Keys.{key_cases}
use Rattle.flux_laws.proofs.Conflicts.{conflict-turned, none-against}
use Rattle.flux_laws.proofs.OwnEvents.{modes_held-own, modes_held-other}

-- no two flows hold a key in conflict
abbrev pub AreApart : List Entry → Type 0
AreApart entries = (flow other : ℕ) (key : Key) (own their : Mode) → flow ≢ other
    → In own (modes_held entries flow key) → In their (modes_held entries other key) → conflict own their ≡ false

in-without_first : {X : Type 0} (x : X) (xs : List X) → In x (without_first xs) → In x xs
in-without_first x [] is = absurd is
in-without_first x (y ∷ xs) is = inr is

-- what is held after one event more was held before, or is taken by it
held-after_one : (key : Key) (modes : List Mode) (event : Event) (mode : Mode) → In mode (held_after key modes (event ∷ [])) → In mode modes ⊎ (event ≡ Take key mode)
held-after_one key modes (Take k own) mode is = key_cases k key (λ same here. there same (rw here at is)) (λ apart not. inl (rw apart at is))
  where
    there : k ≡ key → In mode (own ∷ modes) → In mode modes ⊎ (Take k own ≡ Take key mode)
    there same (inl e) = inr cc
    there same (inr more) = inl more
held-after_one key modes (Drop k) mode is = inl (by (same_key k key) is)
  where
    by : (b : Bool) → In mode (if b then without_first modes else modes) → In mode modes
    by true is = in-without_first mode modes is
    by false is = is
held-after_one key modes (Wait k own) mode is = inl is
held-after_one key modes (Enter node) mode is = inl is
held-after_one key modes (Choose place) mode is = inl is
held-after_one key modes (Call made) mode is = inl is
held-after_one key modes (Exit node outcome) mode is = inl is
held-after_one key modes (End outcome) mode is = inl is

-- so it is in a journal
record IsTaken (entry : Entry) (flow : ℕ) (key : Key) (mode : Mode) : Type 0 where
  flow_is : entry.flow.0 ≡ flow
  event_is : entry.event ≡ Take key mode

held-own : (entries : List Entry) (entry : Entry) (key : Key) (mode : Mode) → In mode (modes_held (entries ++ entry ∷ []) entry.flow.0 key)
    → In mode (modes_held entries entry.flow.0 key) ⊎ (entry.event ≡ Take key mode)
held-own entries entry key mode is =
    held-after_one key (modes_held entries entry.flow.0 key) entry.event mode (subst (In mode) (modes_held-own entries entry.flow.0 entry.event key) is)

held-more : (entries : List Entry) (entry : Entry) (flow : ℕ) (key : Key) (mode : Mode) → In mode (modes_held (entries ++ entry ∷ []) flow key)
    → In mode (modes_held entries flow key) ⊎ IsTaken entry flow key mode
held-more entries entry flow key mode is = by (cases_eq entry.flow.0 flow)
  where
    told : entry.flow.0 ≡ flow → In mode (modes_held entries flow key) ⊎ (entry.event ≡ Take key mode) → In mode (modes_held entries flow key) ⊎ IsTaken entry flow key mode
    told same (inl was) = inl was
    told same (inr e) = inr (record { flow_is = same; event_is = e })

    by : (entry.flow.0 ≡ flow) ⊎ (entry.flow.0 ≡ flow → ⊥) → In mode (modes_held entries flow key) ⊎ IsTaken entry flow key mode
    by (inl same) = told same (subst (λ (f : ℕ). In mode (modes_held (entries ++ entry ∷ []) f key) → In mode (modes_held entries f key) ⊎ (entry.event ≡ Take key mode)) same (held-own entries entry key mode) is)
    by (inr apart) = inl (subst (In mode) (modes_held-other entries entry.flow entry.event flow key apart) is)

-- a take by an entry, if it is one, is made against nothing that another flow holds
abbrev pub TakeExcludes : List Entry → Entry → Type 0
TakeExcludes entries entry = (key : Key) (mode : Mode) → entry.event ≡ Take key mode
    → (other : ℕ) → other ≢ entry.flow.0 → holds_against entries other key mode ≡ false

-- with one entry more
apart-more : (entries : List Entry) (entry : Entry) → TakeExcludes entries entry → AreApart entries → AreApart (entries ++ entry ∷ [])
apart-more entries entry excludes apart flow other key own their ne own_is their_is =
    by (held-more entries entry flow key own own_is) (held-more entries entry other key their their_is)
  where
    by : In own (modes_held entries flow key) ⊎ IsTaken entry flow key own → In their (modes_held entries other key) ⊎ IsTaken entry other key their → conflict own their ≡ false
    by (inl was) (inl there) = apart flow other key own their ne was there
    by (inr new) (inl there) =
        conflict-turned own their
        ∙ none-against (modes_held entries other key) own their (excludes key own new.event_is other (λ (e : other ≡ entry.flow.0). ne (sym (e ∙ new.flow_is)))) there
    by (inl was) (inr new) =
        none-against (modes_held entries flow key) their own (excludes key their new.event_is flow (λ (e : flow ≡ entry.flow.0). ne (e ∙ new.flow_is))) was
    by (inr one) (inr new) = absurd (ne (sym one.flow_is ∙ new.flow_is))

apart-all : (entries more : List Entry) → AreApart entries → TakesExclude (entries ++ more) → AreApart (entries ++ more)
apart-all entries [] apart excludes = rw append-nil apart
apart-all entries (entry ∷ more) apart excludes = rw together (apart-all (entries ++ entry ∷ []) more next (rw (← together) excludes))
  where
    together : entries ++ entry ∷ more ≡ (entries ++ entry ∷ []) ++ more
    together = sym (append_assoc entries (entry ∷ []) more)

    next : AreApart (entries ++ entry ∷ [])
    next = apart-more entries entry (λ key mode is. excludes entries more entry.flow key mode (ap (λ (event : Event). entries ++ record { flow = entry.flow; event = event } ∷ more) is)) apart

-- what is in a journal's front is in the journal
pub stands-front : (before after a b : List Entry) (flow : FlowNo) (event : Event) → Stands before a flow event b → Stands (before ++ after) a flow event (b ++ after)
stands-front before after a b flow event stands = ap (λ es. es ++ after) stands ∙ append_assoc a (record { flow = flow; event = event } ∷ b) after

-- takes that exclude do so in each front
pub takes_exclude-front : (before after : List Entry) → TakesExclude (before ++ after) → TakesExclude before
takes_exclude-front before after excludes a b flow key mode stands = excludes a (b ++ after) flow key mode (stands-front before after a b flow (Take key mode) stands)

-- so it is in the whole journal
pub are_apart : (entries : List Entry) → TakesExclude entries → AreApart entries
are_apart entries excludes = apart-all [] entries (λ flow other key own their ne own_is their_is. absurd own_is) excludes
