-- What a step at once of a core makes of a flow's turn.
use Rattle.std.proofs.Common.{◌≡◌, ◌⊎◌, inl, inr, ℕ, true, List, [], ◌∷◌, length, refl, ap, subst, ◌∙◌, arith}
use Rattle.std.specs.List.{list_any}
use Rattle.std.proofs.lemmas.List.{length-append}
use Rattle.flux_values.specs.Meanings.{LibraryMeaning}
use Rattle.flux_model.specs.declared.items.FlowNo.{FlowNo}
use Rattle.flow_model.specs.declared.journals.CallMade.{CallMade}
use Rattle.flow_model.specs.declared.journals.Key.{Key}
use Rattle.flow_model.specs.declared.journals.Entry.{Entry}
use Rattle.flow_model.specs.declared.journals.Event.{Event}
use Rattle.flow_model.specs.declared.journals.Event.TheVariants as events
use Rattle.flow_model.specs.declared.journals.Outcome.{Outcome}
use Rattle.flow_model.specs.Setup.{Setup}
use Rattle.flux_model.specs.Locks.{AreLocks}
use Rattle.flow_model.specs.Events.{events_by, IsLive}
use Rattle.flow_model.specs.Waits.{StandsAt}
use Rattle.flux_laws.specs.Growth.{is_end, has_ended}
use Rattle.flux_laws.specs.Moves.{MayStep, IsMove}
use Rattle.flux_laws.proofs.Members.{In, contains-from_in}
use Rattle.flux_laws.proofs.NextEvents.{next-no_call, next-plain, IsPlain}
use Rattle.flow_core.specs.declared.cores.AtOnce.{AtOnce}
use Rattle.flow_core.specs.declared.cores.AtOnce.TheVariants.{Ended, Waits, Called, Went}
use Rattle.flow_core.specs.States.{CoreState, setup_in}
use Rattle.flow_core.specs.Moves.{HasSteppedAtOnce, HasWaited, AddsWait}
use Rattle.flow_orders.specs.Turns.{IsInLine, MakesMove}
use Rattle.flow_waits.specs.Turns.{IsPassing}

pub end-in : (list : List Event) → list_any is_end list ≡ true → (outcome : Outcome) × In (events.End outcome) list
end-in [] any = absurd cc
end-in (events.End outcome ∷ list) any = (outcome, inl refl)
end-in (events.Take key mode ∷ list) any = let more = end-in list any in (more.0, inr more.1)
end-in (events.Wait key mode ∷ list) any = let more = end-in list any in (more.0, inr more.1)
end-in (events.Enter node ∷ list) any = let more = end-in list any in (more.0, inr more.1)
end-in (events.Choose place ∷ list) any = let more = end-in list any in (more.0, inr more.1)
end-in (events.Call made ∷ list) any = let more = end-in list any in (more.0, inr more.1)
end-in (events.Exit node outcome ∷ list) any = let more = end-in list any in (more.0, inr more.1)
end-in (events.Drop key ∷ list) any = let more = end-in list any in (more.0, inr more.1)

-- a flow that has its end isn't live
pub ended-over : (setup : Setup) (entries : List Entry) (flow : ℕ) → has_ended entries flow ≡ true
    → IsLive setup entries flow → ⊥
ended-over setup entries flow ended live =
    let (outcome, is) = end-in (events_by flow entries) ended in
    live.goes_on outcome (contains-from_in (events_by flow entries) (events.End outcome) is)

-- a next event that isn't blocked is a move, and neither a call nor a wait
pub passing : (setup : Setup) → AreLocks setup.program setup.locks
    → (entries : List Entry) (flow : FlowNo) (event : Event) → MayStep setup entries flow event
    → IsPassing event × IsMove setup entries flow event
passing setup are entries flow (events.Wait key mode) may =
    absurd (unlike (next-plain setup are entries flow.0 (events.Wait key mode) may.next))
  where
    unlike : IsPlain (events.Wait key mode) → ⊥
    unlike is = let e = is.own in cc e
passing setup are entries flow (events.Call made) may = absurd (next-no_call setup entries flow.0 made may.next)
passing setup are entries flow (events.Take key mode) may = (tt, may)
passing setup are entries flow (events.Enter node) may = (tt, may)
passing setup are entries flow (events.Choose place) may = (tt, may)
passing setup are entries flow (events.Exit node outcome) may = (tt, may)
passing setup are entries flow (events.Drop key) may = (tt, may)
passing setup are entries flow (events.End outcome) may = (tt, may)

module _ {L : Type 0} (meaning : L → LibraryMeaning) (old new : CoreState L) (flow : FlowNo) (step : AtOnce)
    (has : HasSteppedAtOnce meaning old new flow step) where
  pub ended-turn : step ≡ Ended → (IsLive (setup_in meaning old) old.entries flow.0 → ⊥) × (new.entries ≡ old.entries)
  ended-turn is =
      let (ended, same) = subst (HasSteppedAtOnce meaning old new flow) is has in
      (ended-over (setup_in meaning old) old.entries flow.0 ended, ap (λ (c : CoreState L). c.entries) same)

  pub line-turn : (key : Key) (holder : FlowNo) → step ≡ Waits key holder → length new.entries ≡ length old.entries
      → IsInLine (setup_in meaning old) old.entries flow.0 × (new.entries ≡ old.entries)
  line-turn key holder is same = by waited.noted
    where
      waited : HasWaited meaning old new flow key holder
      waited = subst (HasSteppedAtOnce meaning old new flow) is has

      by : AddsWait meaning old new flow key waited.mode ⊎
          ((place : ℕ) × StandsAt old.entries flow.0 key waited.mode place × (new ≡ old))
          → IsInLine (setup_in meaning old) old.entries flow.0 × (new.entries ≡ old.entries)
      by (inl adds) =
          let longer = ap (λ (c : CoreState L). length c.entries) adds.new_
          ∙ length-append old.entries (record { flow = flow; event = events.Wait key waited.mode } ∷ []) in
          absurd (omega (arith, longer, same))
      by (inr (place, stands, stays)) = (
        record {
          key = key;
          mode = waited.mode;
          place = place;
          stands = stands;
          blocked = (holder.0, record { key = key; mode = waited.mode; next = waited.next; blocked = waited.blocked });
        },
        ap (λ (c : CoreState L). c.entries) stays,
      )

  pub called-turn : step ≡ Called
      → (made : CallMade) × MakesMove (setup_in meaning old) old.entries flow (events.Call made) new.entries
  called-turn is =
      let (made, makes) = subst (HasSteppedAtOnce meaning old new flow) is has in
      (made, record { move = makes.may; added = ap (λ (c : CoreState L). c.entries) makes.new_ })

  pub went-turn : (let setup = setup_in meaning old in AreLocks setup.program setup.locks) → step ≡ Went
      → (event : Event) × IsPassing event × MakesMove (setup_in meaning old) old.entries flow event new.entries
  went-turn are is =
      let (event, makes) = subst (HasSteppedAtOnce meaning old new flow) is has in
      let (passes, move) = passing (setup_in meaning old) are old.entries flow event makes.may in
      (event, passes, record { move = move; added = ap (λ (c : CoreState L). c.entries) makes.new_ })
