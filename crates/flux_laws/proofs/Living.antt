-- Flows that are live: whoever blocks is live, and not all are blocked.
use Rattle.std.proofs.Common.{◌≡◌, ◌<◌, ◌≤◌, ◌+◌, ◌⊎◌, inl, inr, ℕ, zero, suc, Bool, true, cond, List, [], ◌∷◌, ◌++◌, length, refl, sym, ap, ◌∙◌, arith}
use Rattle.std.specs.List.{AllByRecursion, Contains, flat_map, list_any}
use Rattle.std.proofs.lemmas.List.{append-nil}
use Rattle.std.proofs.lemmas.Bool.{cases_eq, ne_eqb}
use Rattle.flux_values.specs.declared.answers.Mode.{Mode}
use Rattle.flux_model.specs.declared.programs.ClassNo.{ClassNo}
use Rattle.flux_model.specs.declared.programs.Hold.{Hold}
use Rattle.flow_model.specs.declared.journals.Key.{Key}
use Rattle.flow_model.specs.declared.journals.Entry.{Entry}
use Rattle.flow_model.specs.declared.journals.Event.{Event}
use Rattle.flow_model.specs.declared.journals.Event.TheVariants.{Take, Wait, Enter, Choose, Call, Exit, Drop, End}
use Rattle.flow_model.specs.declared.journals.Outcome.{Outcome}
use Rattle.flow_model.specs.Setup.{Setup}
use Rattle.flux_model.specs.Modes.{conflict}
use Rattle.flux_model.specs.Locks.{declared}
use Rattle.flow_model.specs.Events.{unless_wait, events_by, own_events, IsNext, IsLive}
use Rattle.flow_model.specs.Exclusion.{without_first, held_after, modes_held, holds_against}
use Rattle.flow_model.specs.Waits.{StandsAt, StandsBefore, WaitsFor, Chain}
use Rattle.flow_model.specs.Legal.{IsLegal}
use Rattle.flux_laws.specs.Going.{IsBlocked, BlockersAreLive, NotAllBlocked}
use Rattle.flux_laws.proofs.Members.{In, in-from_contains}
use Rattle.flux_laws.proofs.Stacks.{Stack, modes_in, begun, taken, opened, IsBegun, Runs, run, step, runs-rest}
use Rattle.flux_laws.proofs.FlowRuns.{keys_of, at_start}
use Rattle.flux_laws.proofs.OnWalk.{on_walk-follows, on_walk-next, on_walk-runs, stack_after, modes-stack}
use Rattle.flux_laws.proofs.Standing.{standing-next}
use Rattle.flux_laws.proofs.Lasting.{some-stands}
use Rattle.flux_laws.proofs.Trails.{IsTrail, trail-start, trail-more, trail-short}

-- ---- flows that have ended

empty-stays : (key : ClassNo → Key) (declares : ℕ → List Hold) (st : Stack) (list : List Event) → st ≡ [] → Runs key declares st list → run st list ≡ []
empty-stays key declares st [] none runs = none
empty-stays key declares st (event ∷ list) none runs = absurd (rw none at runs.0)

end-stays : (key : ClassNo → Key) (declares : ℕ → List Hold) (st : Stack) (list : List Event) → IsBegun st → Runs key declares (without_first st) list → run (without_first st) list ≡ []
end-stays key declares [] list last runs = absurd last
end-stays key declares (begun ∷ st) list last runs = empty-stays key declares st list last runs
end-stays key declares (taken k mode ∷ st) list last runs = absurd last
end-stays key declares (opened node ∷ st) list last runs = absurd last

-- nothing runs on an empty stack, so nothing comes after `end`
pub ended-empty : (key : ClassNo → Key) (declares : ℕ → List Hold) (st : Stack) (list : List Event) (outcome : Outcome) → Runs key declares st list → In (End outcome) list → run st list ≡ []
ended-empty key declares st [] outcome runs is = absurd is
ended-empty key declares st (event ∷ list) outcome (on, allowed, runs) (inr is) = ended-empty key declares (step st event) list outcome runs is
ended-empty key declares st (event ∷ list) outcome (on, allowed, runs) (inl same) =
    rw same (end-stays key declares st list (rw same at allowed) (rw same at runs))

-- `end` is no wait, so it is among own events
pub in-own : (outcome : Outcome) (list : List Event) → In (End outcome) list → In (End outcome) (flat_map unless_wait list)
in-own outcome [] is = absurd is
in-own outcome (Wait key mode ∷ list) (inl same) = absurd cc
in-own outcome (Wait key mode ∷ list) (inr is) = in-own outcome list is
in-own outcome (Take key mode ∷ list) (inl same) = inl same
in-own outcome (Take key mode ∷ list) (inr is) = inr (in-own outcome list is)
in-own outcome (Enter node ∷ list) (inl same) = inl same
in-own outcome (Enter node ∷ list) (inr is) = inr (in-own outcome list is)
in-own outcome (Choose place ∷ list) (inl same) = inl same
in-own outcome (Choose place ∷ list) (inr is) = inr (in-own outcome list is)
in-own outcome (Call made ∷ list) (inl same) = inl same
in-own outcome (Call made ∷ list) (inr is) = inr (in-own outcome list is)
in-own outcome (Exit node other ∷ list) (inl same) = inl same
in-own outcome (Exit node other ∷ list) (inr is) = inr (in-own outcome list is)
in-own outcome (Drop key ∷ list) (inl same) = inl same
in-own outcome (Drop key ∷ list) (inr is) = inr (in-own outcome list is)
in-own outcome (End other ∷ list) (inl same) = inl same
in-own outcome (End other ∷ list) (inr is) = inr (in-own outcome list is)

-- a flow with events has an item
events-item : (count : ℕ) (entries : List Entry) (flow : ℕ) → AllByRecursion (λ entry. entry.flow.0 < count) entries → (events_by flow entries ≡ [] → ⊥) → flow < count
events-item count [] flow all some = absurd (some refl)
events-item count (entry ∷ entries) flow (own, all) some = by (cases_eq entry.flow.0 flow) (λ more. events-item count entries flow all more)
  where
    by : (entry.flow.0 ≡ flow) ⊎ (entry.flow.0 ≡ flow → ⊥) → ((events_by flow entries ≡ [] → ⊥) → flow < count) → flow < count
    by (inl same) more = rw (← same) own
    by (inr apart) more = more (λ none. some (ap (λ (b : Bool). cond b (entry.event ∷ events_by flow entries) (events_by flow entries)) (ne_eqb entry.flow.0 flow apart) ∙ none))

-- ---- blockers

nothing-against : (modes : List Mode) (mode : Mode) → modes ≡ [] → list_any (λ held. conflict held mode) modes ≡ true → ⊥
nothing-against [] mode none against = cc against
nothing-against (held ∷ modes) mode none against = cc none

module _ (setup : Setup) (entries : List Entry) (legal : IsLegal setup entries) where
  -- a flow that has ended holds nothing, and has no next event
  module _ (flow : ℕ) (item : flow < length setup.items) (outcome : Outcome) (ended : Contains (events_by flow entries) (End outcome)) where
    -- it has nothing on its stack
    pub emptied : stack_after entries flow ≡ []
    emptied =
        let runs = on_walk-runs setup legal.locks flow (own_events entries flow) (on_walk-follows setup entries flow (legal.walks flow item)) in
        ended-empty (keys_of setup flow) (declared setup.program) at_start (own_events entries flow) outcome runs
        (in-own outcome (events_by flow entries) (in-from_contains (events_by flow entries) (End outcome) ended))

    holds-nothing : (key : Key) → modes_held entries flow key ≡ []
    holds-nothing key = modes-stack setup legal.locks entries flow (on_walk-follows setup entries flow (legal.walks flow item)) key ∙ ap (λ st. modes_in key st) emptied

    no-next : (event : Event) → IsNext setup entries flow event → ⊥
    no-next event next =
        let runs = on_walk-runs setup legal.locks flow (own_events entries flow ++ event ∷ []) (on_walk-next setup entries flow event next) in
        let last = runs-rest (keys_of setup flow) (declared setup.program) at_start (own_events entries flow) (event ∷ []) runs in
        rw emptied at last.0

  holder-live : (other : ℕ) (key : Key) (mode : Mode) → holds_against entries other key mode ≡ true → IsLive setup entries other
  holder-live other key mode against = record {
    item = item;
    goes_on = λ outcome ended. nothing-against (modes_held entries other key) mode (holds-nothing other item outcome ended key) against;
  }
    where
      item : other < length setup.items
      item = events-item (length setup.items) entries other legal.flows (λ none. nothing-against (modes_held entries other key) mode (ap (held_after key []) none) against)

  stander-live : (other : ℕ) (key : Key) (mode : Mode) (place : ℕ) → StandsAt entries other key mode place → IsLive setup entries other
  stander-live other key mode place stands = record {
    item = item;
    goes_on = λ outcome ended. no-next other item outcome ended (Take key mode) (standing-next setup entries other key mode place legal.waits stands);
  }
    where
      item : other < length setup.items
      item = events-item (length setup.items) entries other legal.flows
          (λ none. some-stands stands.before stands.after (record { 0 = other }) (Wait key mode) (let there = stands.stands in rw there at none))

  -- who blocks holds the key or waits there
  pub blocker-live : (flow other : ℕ) → WaitsFor setup entries flow other → IsLive setup entries other
  blocker-live flow other waits = by (let b = waits.blocked in b.cause)
    where
      by : (holds_against entries other waits.key waits.mode ≡ true) ⊎ StandsBefore entries other flow waits.key waits.mode → IsLive setup entries other
      by (inl against) = holder-live other waits.key waits.mode against
      by (inr before) = stander-live other waits.key before.their before.place before.stands

  -- ---- not all are blocked

  no-circles : (flow : ℕ) (between : List ℕ) → Chain (WaitsFor setup entries) flow between flow → ⊥
  no-circles flow between chain = legal.free entries [] (sym (append-nil entries)) flow between chain

  on-and-on : ((flow : ℕ) → IsLive setup entries flow → IsBlocked setup entries flow) → (fuel : ℕ) (visited : List ℕ) (flow : ℕ)
      → IsTrail (WaitsFor setup entries) (length setup.items) visited flow → IsLive setup entries flow → length setup.items ≤ length visited + fuel → ⊥
  on-and-on blocked zero visited flow trail live enough =
      let short = trail-short (WaitsFor setup entries) (length setup.items) visited flow trail in
      omega (arith, short, enough)
  on-and-on blocked (suc fuel) visited flow trail live enough =
      let (other, waits) = blocked flow live in
      let there = blocker-live flow other waits in
      on-and-on blocked fuel (flow ∷ visited) other
      (trail-more (WaitsFor setup entries) (length setup.items) visited flow other no-circles trail waits there.item) there (omega (arith, enough))

pub blockers_are_live : BlockersAreLive
blockers_are_live setup entries legal flow other waits = blocker-live setup entries legal flow other waits

pub not_all_blocked : NotAllBlocked
not_all_blocked setup entries legal blocked flow live =
    on-and-on setup entries legal blocked (length setup.items) [] flow (trail-start (WaitsFor setup entries) (length setup.items) flow live.item) live (omega arith)
