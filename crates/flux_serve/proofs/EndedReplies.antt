-- The reply of a flow that has its `end` stays as it is.
use Rattle.std.proofs.Common.{◌≡◌, ◌<◌, ℕ, Bool, true, false, cond, eqb, List, [], ◌∷◌, ◌++◌, length, refl, sym, ap, subst, ◌∙◌}
use Rattle.std.specs.List.{flat_map, AllByRecursion}
use Rattle.std.proofs.lemmas.Bool.{eqb-true}
use Rattle.std.proofs.lemmas.Grind.{flat_map-append}
use Rattle.std.proofs.lemmas.List.{append-nil}
use Rattle.flux_model.specs.Locks.{declared}
use Rattle.flow_model.specs.declared.journals.Entry.{Entry}
use Rattle.flow_model.specs.declared.journals.Event.{Event}
use Rattle.flow_model.specs.declared.journals.Event.TheVariants.{Take, Wait, Enter, Choose, Call, Exit, Drop, End}
use Rattle.flow_model.specs.declared.journals.Outcome.{Outcome}
use Rattle.flow_model.specs.Setup.{Setup}
use Rattle.flow_model.specs.Events.{unless_wait, events_by, own_events}
use Rattle.flow_model.specs.Legal.{IsLegal}
use Rattle.flux_laws.specs.Growth.{has_ended}
use Rattle.flux_laws.proofs.Members.{In, all-front}
use Rattle.flux_laws.proofs.Stacks.{Runs, runs-front, runs-rest}
use Rattle.flux_laws.proofs.FlowRuns.{keys_of, at_start}
use Rattle.flux_laws.proofs.OwnEvents.{own_events-append}
use Rattle.flux_laws.proofs.OnWalk.{on_walk-follows, on_walk-runs}
use Rattle.flux_laws.proofs.Living.{ended-empty, in-own}
use Rattle.flux_laws.proofs.Ends.{nothing-left}
use Rattle.flux_laws.proofs.Growing.{ended-in}
use Rattle.flux_batches.specs.Replies.{emitted, reply_of}

-- waits emit nothing
emitted-own : (event : Event) → flat_map emitted (unless_wait event) ≡ emitted event
emitted-own (Take key mode) = refl
emitted-own (Wait key mode) = refl
emitted-own (Enter node) = refl
emitted-own (Choose place) = refl
emitted-own (Call made) = let answer = made.answer in append-nil answer.emits
emitted-own (Exit node outcome) = refl
emitted-own (Drop key) = refl
emitted-own (End outcome) = refl

-- a reply is what the flow's own events emit
reply-own : (flow : ℕ) (entries : List Entry) → reply_of flow entries ≡ flat_map emitted (own_events entries flow)
reply-own flow [] = refl
reply-own flow (entry ∷ entries) = by (eqb entry.flow.0 flow) (reply-own flow entries)
  where
    by : (own : Bool) → reply_of flow entries ≡ flat_map emitted (own_events entries flow)
        → cond own (emitted entry.event) [] ++ reply_of flow entries
        ≡ flat_map emitted (flat_map unless_wait (cond own (entry.event ∷ events_by flow entries) (events_by flow entries)))
    by true more =
        ap (λ (l : List ℕ). emitted entry.event ++ l) more
        ∙ ap (λ (l : List ℕ). l ++ flat_map emitted (own_events entries flow)) (sym (emitted-own entry.event))
        ∙ sym (flat_map-append emitted (unless_wait entry.event) (own_events entries flow))
    by false more = more

-- a flow of which something happened is an item's
flow-within : (n flow : ℕ) (entries : List Entry) (event : Event) → AllByRecursion (λ entry. entry.flow.0 < n) entries
    → In event (events_by flow entries) → flow < n
flow-within n flow [] event all is = absurd is
flow-within n flow (entry ∷ entries) event (own, all) is = by (eqb entry.flow.0 flow) refl is (flow-within n flow entries event all)
  where
    by : (b : Bool) → eqb entry.flow.0 flow ≡ b → In event (cond b (entry.event ∷ events_by flow entries) (events_by flow entries))
        → (In event (events_by flow entries) → flow < n) → flow < n
    by true same is more = subst (λ (f : ℕ). f < n) (eqb-true entry.flow.0 flow same) own
    by false same is more = more is

module _ (setup : Setup) (entries more : List Entry) (legal : IsLegal setup (entries ++ more)) (flow : ℕ) where
  -- it makes no more events
  none-more : (outcome : Outcome) → In (End outcome) (events_by flow entries) → own_events more flow ≡ []
  none-more outcome is =
      let item = flow-within (length setup.items) flow entries (End outcome)
      (all-front (λ entry. entry.flow.0 < length setup.items) entries more legal.flows) is in
      let runs = on_walk-runs setup legal.locks flow (own_events (entries ++ more) flow)
      (on_walk-follows setup (entries ++ more) flow (legal.walks flow item)) in
      let both : Runs (keys_of setup flow) (declared setup.program) at_start (own_events entries flow ++ own_events more flow) =
      rw (own_events-append flow entries more) at runs in
      let first = runs-front (keys_of setup flow) (declared setup.program) at_start (own_events entries flow) (own_events more flow) both in
      let empty = ended-empty (keys_of setup flow) (declared setup.program) at_start (own_events entries flow) outcome first
      (in-own outcome (events_by flow entries) is) in
      let rest = runs-rest (keys_of setup flow) (declared setup.program) at_start (own_events entries flow) (own_events more flow) both in
      nothing-left (keys_of setup flow) (declared setup.program) (own_events more flow) (rw empty at rest)

  -- so its reply in a legal journal is the one that it had in a front with its `end`
  pub reply-stays : has_ended entries flow ≡ true → reply_of flow (entries ++ more) ≡ reply_of flow entries
  reply-stays ended =
      let (outcome, is) = ended-in (events_by flow entries) ended in
      reply-own flow (entries ++ more)
      ∙ ap (flat_map emitted) (own_events-append flow entries more
      ∙ ap (λ (l : List Event). own_events entries flow ++ l) (none-more outcome is) ∙ append-nil (own_events entries flow))
      ∙ sym (reply-own flow entries)
