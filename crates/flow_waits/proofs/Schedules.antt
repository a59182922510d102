-- Whatever a rule of turns allows, the journal is legal, whole and not too long.
use Rattle.std.proofs.Common.{◌≡◌, ◌≤◌, ◌+◌, ◌⊎◌, inl, inr, ℕ, List, [], ◌∷◌, ◌++◌, length, refl, sym, ap, subst, ◌∙◌, append_assoc}
use Rattle.std.specs.List.{AllByRecursion}
use Rattle.std.proofs.lemmas.List.{length-append, append-nil}
use Rattle.flux_model.specs.declared.items.FlowNo.{FlowNo}
use Rattle.flow_model.specs.declared.journals.Entry.{Entry}
use Rattle.flow_model.specs.declared.journals.Event.{Event}
use Rattle.flow_model.specs.Setup.{Setup}
use Rattle.flow_model.specs.Events.{IsLive}
use Rattle.flow_model.specs.Legal.{IsLegal, IsWhole}
use Rattle.flux_laws.specs.Moves.{IsMove}
use Rattle.flux_laws.proofs.Members.{end_or_front, IsEnd, InFront}
use Rattle.flux_laws.proofs.Added.{moves_are_legal}
use Rattle.flux_laws.proofs.Ends.{none_live_is_whole}
use Rattle.flow_orders.specs.Turns.{MakesMove, EachStands}
use Rattle.flow_orders.specs.Schedules.{IsAllowed, IsScheduled}
use Rattle.flow_waits.proofs.Counting.{most_entries, few-entries}

-- ---- lists of which each entry is as it should be

pub each-none : (Is : List Entry → FlowNo → Event → Type 0) → EachStands Is []
each-none Is [] after flow event stands = absurd cc
each-none Is (x ∷ before) after flow event stands = absurd cc

pub each-more : (Is : List Entry → FlowNo → Event → Type 0) (entries : List Entry) (flow : FlowNo) (event : Event)
    → EachStands Is entries → Is entries flow event
    → EachStands Is (entries ++ record { flow = flow; event = event } ∷ [])
each-more Is entries flow event each own before after f e stands =
    by (end_or_front entries (record { flow = flow; event = event }) before (record { flow = f; event = e })
    after stands)
  where
    by : IsEnd entries (record { flow = flow; event = event }) before (record { flow = f; event = e }) after
        ⊎ InFront entries (record { flow = flow; event = event }) before (record { flow = f; event = e }) after
        → Is before f e
    by (inr front) = each before front.rest f e front.front
    by (inl end) =
        let flow_is : flow ≡ f = ap (λ (x : Entry). x.flow) end.same in
        let event_is : event ≡ e = ap (λ (x : Entry). x.event) end.same in
        let whole = end.whole in
        rw (← flow_is, ← event_is, ← whole) own

-- one list after another
pub each-append : (Is : List Entry → FlowNo → Event → Type 0) (front entries : List Entry) → EachStands Is front
    → EachStands (λ before. Is (front ++ before)) entries → EachStands Is (front ++ entries)
each-append Is front [] each own = rw (append-nil front) each
each-append Is front (entry ∷ entries) each own =
    subst (EachStands Is) (append_assoc front (entry ∷ []) entries)
    (each-append Is (front ++ entry ∷ []) entries
    (each-more Is front entry.flow entry.event each
    (subst (λ es. Is es entry.flow entry.event) (append-nil front) (own [] entries entry.flow entry.event refl)))
    (λ before after flow event stands. subst (λ es. Is es flow event) (sym (append_assoc front (entry ∷ []) before))
    (own (entry ∷ before) after flow event (ap (λ es. entry ∷ es) stands))))

-- what follows for each entry holds of all
each-all : (Is : List Entry → FlowNo → Event → Type 0) (P : Entry → Type 0)
    → ((before : List Entry) (flow : FlowNo) (event : Event) → Is before flow event
    → P (record { flow = flow; event = event }))
    → (before after : List Entry) → EachStands Is (before ++ after) → AllByRecursion P after
each-all Is P gives before [] each = tt
each-all Is P gives before (entry ∷ after) each =
    let whole : before ++ entry ∷ after ≡ (before ++ entry ∷ []) ++ after =
    sym (append_assoc before (entry ∷ []) after) in (
      gives before entry.flow entry.event (each before after entry.flow entry.event refl),
      each-all Is P gives (before ++ entry ∷ []) after (subst (EachStands Is) whole each),
    )

pub each-holds : (Is : List Entry → FlowNo → Event → Type 0) (P : Entry → Type 0)
    → ((before : List Entry) (flow : FlowNo) (event : Event) → Is before flow event
    → P (record { flow = flow; event = event }))
    → (entries : List Entry) → EachStands Is entries → AllByRecursion P entries
each-holds Is P gives entries each = each-all Is P gives [] entries each

-- ---- a journal on its way

pub record IsScheduling (Allows : List Entry → FlowNo → Event → Type 0) (setup : Setup) (old new : List Entry)
    : Type 0 where
  pub more : List Entry
  pub added : new ≡ old ++ more
  pub each : EachStands (IsAllowed Allows setup old) more
  pub legal : IsLegal setup new

abbrev pub scheduling-none : (Allows : List Entry → FlowNo → Event → Type 0) (setup : Setup) (entries : List Entry)
    → IsLegal setup entries → IsScheduling Allows setup entries entries
scheduling-none Allows setup entries legal = record {
  more = [];
  added = sym (append-nil entries);
  each = each-none (IsAllowed Allows setup entries);
  legal = legal;
}

module _ (Allows : List Entry → FlowNo → Event → Type 0) (setup : Setup) (old entries : List Entry)
    (kept : IsScheduling Allows setup old entries) where
  abbrev pub scheduling-more : (after : List Entry) (flow : FlowNo) (event : Event) → Allows kept.more flow event
      → MakesMove setup entries flow event after → IsScheduling Allows setup old after
  scheduling-more after flow event allowed makes = record {
    more = kept.more ++ record { flow = flow; event = event } ∷ [];
    added = makes.added ∙ ap (λ es. es ++ record { flow = flow; event = event } ∷ []) kept.added
        ∙ append_assoc old kept.more (record { flow = flow; event = event } ∷ []);
    each = each-more (IsAllowed Allows setup old) kept.more flow event kept.each (record {
      allowed = allowed;
      move = subst (λ es. IsMove setup es flow event) kept.added makes.move;
    });
    legal = subst (IsLegal setup) (sym makes.added) (moves_are_legal setup entries flow event kept.legal makes.move);
  }

  -- it doesn't go on for ever
  pub scheduling-few : length entries ≤ most_entries setup
  scheduling-few = few-entries setup entries kept.legal

  abbrev pub scheduled : ((flow : ℕ) → IsLive setup entries flow → ⊥) → IsScheduled Allows setup old entries
  scheduled over = record { more = kept.more; added = kept.added; each = kept.each; over = over }

pub move-longer : (setup : Setup) (entries after : List Entry) (flow : FlowNo) (event : Event)
    → MakesMove setup entries flow event after → length after ≡ length entries + 1
move-longer setup entries after flow event makes =
    ap length makes.added ∙ length-append entries (record { flow = flow; event = event } ∷ [])

-- ---- laws of every rule

legal-on : (Allows : List Entry → FlowNo → Event → Type 0) (setup : Setup) (old before after : List Entry)
    → EachStands (IsAllowed Allows setup old) (before ++ after) → IsLegal setup (old ++ before)
    → IsLegal setup (old ++ (before ++ after))
legal-on Allows setup old before [] each legal = rw (append-nil before) legal
legal-on Allows setup old before (entry ∷ after) each legal =
    let own = each before after entry.flow entry.event refl in
    let whole : before ++ entry ∷ after ≡ (before ++ entry ∷ []) ++ after =
    sym (append_assoc before (entry ∷ []) after) in
    subst (λ es. IsLegal setup (old ++ es)) (sym whole)
    (legal-on Allows setup old (before ++ entry ∷ []) after (subst (EachStands (IsAllowed Allows setup old)) whole each)
    (subst (IsLegal setup) (append_assoc old before (entry ∷ []))
    (moves_are_legal setup (old ++ before) entry.flow entry.event legal own.move)))

module _ (Allows : List Entry → FlowNo → Event → Type 0) (setup : Setup) (old new : List Entry)
    (legal : IsLegal setup old) (is : IsScheduled Allows setup old new) where
  pub scheduled-legal : IsLegal setup new
  scheduled-legal = subst (IsLegal setup) (sym is.added)
      (legal-on Allows setup old [] is.more is.each (subst (IsLegal setup) (sym (append-nil old)) legal))

  pub scheduled-whole : IsWhole setup new
  scheduled-whole = none_live_is_whole setup new scheduled-legal is.over

  pub scheduled-few : length new ≤ most_entries setup
  scheduled-few = few-entries setup new scheduled-legal
