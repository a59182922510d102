-- Whether a flow's turn is over with an entry.
use Rattle.std.proofs.Common.{◌≡◌, ℕ, Bool, true, false, ◌||◌, List, [], ◌∷◌, ◌++◌, length, refl, sym, ap, subst, ◌∙◌}
use Rattle.std.specs.List.{list_any}
use Rattle.flux_model.specs.declared.items.FlowNo.{FlowNo}
use Rattle.flow_model.specs.declared.journals.Entry.{Entry}
use Rattle.flow_model.specs.declared.journals.Event.{Event}
use Rattle.flow_model.specs.declared.journals.Event.TheVariants.{Take, Wait, Enter, Choose, Call, Exit, Drop, End}
use Rattle.flow_model.specs.Setup.{Setup}
use Rattle.flow_model.specs.Events.{events_by, IsLive}
use Rattle.flow_model.specs.Waits.{IsLast}
use Rattle.flux_laws.specs.Growth.{is_end, has_ended}
use Rattle.flux_laws.proofs.OwnEvents.{events_by-append, by_itself}
use Rattle.flux_laws.proofs.Lasting.{last-unique}
use Rattle.flow_orders.specs.Turns.{IsInLine, MakesMove}
use Rattle.flow_waits.specs.Turns.{IsPassing}
use Rattle.flow_waits.proofs.Turning.{ended-over}
use Rattle.flow_waits.proofs.Ending.{live-is}
use Rattle.flow_orders.specs.Round.{EndsTurn}
use Rattle.rt_event.specs.steps.Owners.{IsOver, MakesOwn}

any-push : (p : Event → Bool) (list : List Event) (event : Event)
    → list_any p (list ++ event ∷ []) ≡ (list_any p list || p event)
any-push p [] event = by (p event)
  where
    by : (b : Bool) → (b || false) ≡ (false || b)
    by true = refl
    by false = refl
any-push p (first ∷ list) event = by (p first) (any-push p list event)
  where
    by : (b : Bool) → list_any p (list ++ event ∷ []) ≡ (list_any p list || p event)
        → (b || list_any p (list ++ event ∷ [])) ≡ ((b || list_any p list) || p event)
    by true more = refl
    by false more = more

-- a live flow hasn't had its end
live-none : (setup : Setup) (entries : List Entry) (flow : ℕ) → IsLive setup entries flow
    → has_ended entries flow ≡ false
live-none setup entries flow live = by (has_ended entries flow) refl
  where
    by : (b : Bool) → has_ended entries flow ≡ b → b ≡ false
    by true ended = absurd (ended-over setup entries flow ended live)
    by false is = refl

-- with one entry more it has had it exactly where that is one
pub ended-more : (setup : Setup) (entries : List Entry) (flow : FlowNo) (event : Event) → IsLive setup entries flow.0
    → has_ended (entries ++ record { flow = flow; event = event } ∷ []) flow.0 ≡ is_end event
ended-more setup entries flow event live =
    ap (list_any is_end) (events_by-append flow.0 entries (record { flow = flow; event = event } ∷ []) ∙ ap
    (λ es. events_by flow.0 entries ++ es) (by_itself flow.0 event))
    ∙ any-push is_end (events_by flow.0 entries) event ∙ ap (λ b. b || is_end event)
    (live-none setup entries flow.0 live)

over-is : (event : Event) → IsPassing event → IsOver (is_end event) event
over-is (End outcome) passes = tt
over-is (Call made) passes = absurd passes
over-is (Wait key mode) passes = absurd passes
over-is (Take key mode) passes = λ ends. ends
over-is (Enter node) passes = λ ends. ends
over-is (Choose place) passes = λ ends. ends
over-is (Exit node outcome) passes = λ ends. ends
over-is (Drop key) passes = λ ends. ends

-- a flow that went on: its turn is over where its entry is an end
pub went-own : (setup : Setup) (before after : List Entry) (flow : FlowNo) (ends : Bool)
    → ((event : Event) → after ≡ before ++ record { flow = flow; event = event } ∷ [] → ends ≡ is_end event)
    → (event : Event) × IsPassing event × MakesMove setup before flow event after → MakesOwn setup before flow after ends
went-own setup before after flow ends is (event, passes, makes) = record {
  event = event;
  makes = makes;
  over = subst (λ b. IsOver b event) (sym (is event makes.added)) (over-is event passes);
}

-- ---- a flow whose turn isn't over

no-end : (event : Event) → (EndsTurn event → ⊥) → is_end event ≡ false
no-end (End outcome) on = absurd (on tt)
no-end (Call made) on = refl
no-end (Wait key mode) on = refl
no-end (Take key mode) on = refl
no-end (Enter node) on = refl
no-end (Choose place) on = refl
no-end (Exit node outcome) on = refl
no-end (Drop key) on = refl

pub still-live : (setup : Setup) (entries : List Entry) (flow : FlowNo) (event : Event) → (EndsTurn event → ⊥)
    → IsLive setup entries flow.0
    → IsLive setup (entries ++ record { flow = flow; event = event } ∷ []) flow.0
still-live setup entries flow event on live =
    live-is setup (entries ++ record { flow = flow; event = event } ∷ []) flow.0 live.item
    (ended-more setup entries flow event live ∙ no-end event on)

pub still-awake : (setup : Setup) (entries : List Entry) (flow : FlowNo) (event : Event) → (EndsTurn event → ⊥)
    → IsInLine setup (entries ++ record { flow = flow; event = event } ∷ []) flow.0 → ⊥
still-awake setup entries flow event on line =
    let own : IsLast (entries ++ record { flow = flow; event = event } ∷ []) flow event (length entries) =
    record { before = entries; after = []; stands = refl; last = refl; at = refl } in
    let same = last-unique (entries ++ record { flow = flow; event = event } ∷ []) flow event (Wait line.key line.mode)
    (length entries) line.place own line.stands in
    on (subst EndsTurn (sym same.0) tt)
