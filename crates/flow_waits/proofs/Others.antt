-- What is so of all others after an entry of one flow.
use Rattle.std.proofs.Common.{◌≡◌, ◌⊎◌, inl, inr, ℕ, List, [], ◌∷◌, ◌++◌, sym, ap, ◌∙◌, append_assoc}
use Rattle.std.specs.List.{flat_map}
use Rattle.std.proofs.lemmas.List.{append-nil}
use Rattle.flux_values.specs.declared.answers.Mode.{Mode}
use Rattle.flux_model.specs.declared.items.FlowNo.{FlowNo}
use Rattle.flow_model.specs.declared.journals.Key.{Key}
use Rattle.flow_model.specs.declared.journals.Entry.{Entry}
use Rattle.flow_model.specs.declared.journals.Event.{Event}
use Rattle.flow_model.specs.declared.journals.Event.TheVariants.{Take, Wait}
use Rattle.flow_model.specs.Setup.{Setup}
use Rattle.flow_model.specs.Events.{unless_wait, answer_in, events_by, own_events, own_answers, IsNext, IsLive}
use Rattle.flow_model.specs.Exclusion.{modes_held, HoldsKey}
use Rattle.flow_model.specs.Waits.{IsLast}
use Rattle.flux_laws.proofs.Members.{end_or_front, IsEnd, InFront}
use Rattle.flux_laws.proofs.OwnEvents.{events_by-append, by_another, modes_held-other}
use Rattle.flow_waits.specs.steps.Staying.{IsFresh}

module _ (entries : List Entry) (flow : FlowNo) (event : Event) (other : ℕ) (apart : flow.0 ≡ other → ⊥) where
  abbrev pub more : List Entry
  more = entries ++ record { flow = flow; event = event } ∷ []

  pub events-stay : events_by other more ≡ events_by other entries
  events-stay =
      events_by-append other entries (record { flow = flow; event = event } ∷ [])
      ∙ ap (λ es. events_by other entries ++ es) (by_another flow other event apart) ∙ append-nil
      (events_by other entries)

  own-stay : own_events more other ≡ own_events entries other
  own-stay = ap (flat_map unless_wait) events-stay

  answers-stay : own_answers more other ≡ own_answers entries other
  answers-stay = ap (flat_map answer_in) events-stay

  -- the next event, forth and back
  pub next-stays : (setup : Setup) (next : Event) → IsNext setup entries other next → IsNext setup more other next
  next-stays setup next is = record { rest = is.rest; next = rw (own-stay, answers-stay) is.next }

  -- what is held
  pub held-stays : (key : Key) → modes_held more other key ≡ modes_held entries other key
  held-stays key = modes_held-other entries flow event other key apart

  pub free-stays : (key : Key) → (HoldsKey entries other key → ⊥) → HoldsKey more other key → ⊥
  free-stays key free holds = free (λ none. holds (held-stays key ∙ none))

  pub live-back : (setup : Setup) → IsLive setup more other → IsLive setup entries other
  live-back setup live = record { item = live.item; goes_on = λ outcome is. live.goes_on outcome (rw events-stay is) }

  pub live-stays : (setup : Setup) → IsLive setup entries other → IsLive setup more other
  live-stays setup live = record {
    item = live.item;
    goes_on =
        λ outcome is. live.goes_on outcome (rw events-stay at is);
  }

  -- the last entry, forth and back
  pub last-stays : (last : Event) (place : ℕ) → IsLast entries (record { 0 = other }) last place
      → IsLast more (record { 0 = other }) last place
  last-stays last place is = record {
    before = is.before;
    after = is.after ++ record { flow = flow; event = event } ∷ [];
    stands = ap (λ es. es ++ record { flow = flow; event = event } ∷ []) is.stands
        ∙ append_assoc is.before (record { flow = record { 0 = other }; event = last } ∷ is.after)
        (record { flow = flow; event = event } ∷ []);
    last = events_by-append other is.after (record { flow = flow; event = event } ∷ [])
        ∙ ap (λ es. es ++ events_by other (record { flow = flow; event = event } ∷ [])) is.last ∙ by_another flow other
        event apart;
    at = is.at;
  }

  pub last-back : (last : Event) (place : ℕ) → IsLast more (record { 0 = other }) last place
      → IsLast entries (record { 0 = other }) last place
  last-back last place is = by (end_or_front entries (record { flow = flow; event = event }) is.before
      (record { flow = record { 0 = other }; event = last }) is.after is.stands)
    where
      front-last : (rest : List Entry) → is.after ≡ rest ++ record { flow = flow; event = event } ∷ []
          → events_by other rest ≡ []
      front-last rest e =
          sym (append-nil (events_by other rest)) ∙ ap (λ es. events_by other rest ++ es)
          (sym (by_another flow other event apart))
          ∙ sym (events_by-append other rest (record { flow = flow; event = event } ∷ [])) ∙ ap (events_by other)
          (sym e) ∙ is.last

      by : IsEnd entries (record { flow = flow; event = event }) is.before
          (record { flow = record { 0 = other }; event = last }) is.after
          ⊎ InFront entries (record { flow = flow; event = event }) is.before
          (record { flow = record { 0 = other }; event = last }) is.after
          → IsLast entries (record { 0 = other }) last place
      by (inl end) = absurd (apart (ap (λ (x : Entry). x.flow.0) end.same))
      by (inr front) = record {
        before = is.before;
        after = front.rest;
        stands = front.front;
        last = front-last front.rest front.after_is;
        at = is.at;
      }

  -- a flow at a take, in no line
  pub fresh-stays : (setup : Setup) (key : Key) (mode : Mode) → IsFresh setup entries other key mode
      → IsFresh setup more other key mode
  fresh-stays setup key mode fresh = record {
    live = live-stays setup fresh.live;
    next = next-stays setup (Take key mode) fresh.next;
    free = free-stays key fresh.free;
    stands_nowhere = λ line own place stands. fresh.stands_nowhere line own place
        (last-back (Wait line own) place stands);
  }
