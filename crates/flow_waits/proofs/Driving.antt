-- A core that is drained a turn at a time.
use Rattle.std.proofs.Common.{◌≡◌, ◌<◌, ◌≤◌, ◌+◌, ◌⊎◌, inl, inr, ℕ, List, ◌++◌, length, sym, ap, subst, ◌∙◌, arith}
use Rattle.std.specs.List.{AllByRecursion}
use Rattle.std.proofs.lemmas.Bool.{cases_lt}
use Rattle.std.proofs.lemmas.List.{length-append}
use Rattle.flux_values.specs.Meanings.{LibraryMeaning}
use Rattle.flux_model.specs.declared.items.FlowNo.{FlowNo}
use Rattle.flow_model.specs.declared.journals.Entry.{Entry}
use Rattle.flow_model.specs.declared.journals.Event.{Event}
use Rattle.flow_model.specs.declared.journals.Event.TheVariants.{Wait, Call}
use Rattle.flow_model.specs.Setup.{Setup}
use Rattle.flow_model.specs.Events.{IsLive}
use Rattle.flow_model.specs.Legal.{IsLegal}
use Rattle.flux_laws.specs.Going.{CanGoOn, IsLowest}
use Rattle.flux_laws.specs.Growth.{room_of, sum_below, IsNoWait}
use Rattle.flux_laws.specs.Moves.{IsMove}
use Rattle.flux_laws.proofs.Ends.{none_live_is_whole}
use Rattle.flux_laws.proofs.Growing.{growth_is_bounded}
use Rattle.flow_core.specs.States.{CoreState, setup_in}
use Rattle.flow_core.specs.Runs.{SameSetting, GoesOnLegally}
use Rattle.flow_core.proofs.Sequels.{same-setup, same-then, goes-on}
use Rattle.flow_waits.specs.declared.turns.Turn.{Turn}
use Rattle.flow_waits.specs.declared.turns.Turn.TheVariants.{Ended, InLine, Waited, Called, Went}
use Rattle.flow_orders.specs.Turns.{IsFirstFrom, MakesMove}
use Rattle.flow_waits.specs.Turns.{TakesTurn}
use Rattle.flow_orders.specs.Schedules.{IsAllowed}
use Rattle.flow_orders.specs.Drains.{IsLowestsTurn, DrainsTo}
use Rattle.flow_waits.specs.steps.Covers.{Pools, IsReady, Covers, IsChosen, Lags}
use Rattle.flow_waits.proofs.Orders.{before-from_zero}
use Rattle.flow_waits.proofs.Schedules.{each-holds, IsScheduling, scheduling-more, scheduled, move-longer}

-- ---- turns

-- a flow that can go on makes a move
pub record Moves (setup : Setup) (before : List Entry) (flow : FlowNo) (after : List Entry) : Type 0 where
  pub event : Event
  pub makes : MakesMove setup before flow event after

pub can-move : (setup : Setup) (before : List Entry) (flow : FlowNo) (after : List Entry) (turn : Turn)
    → CanGoOn setup before flow.0 → TakesTurn setup before flow after turn → Moves setup before flow after
can-move setup before flow after Ended can (ended, same) = absurd (ended can.live)
can-move setup before flow after InLine can (line, same) = absurd (can.free line.blocked)
can-move setup before flow after Waited can (key, mode, makes) = absurd (can.free (let may = makes.move in may.blocked))
can-move setup before flow after Called can (made, makes) = record { event = Call made; makes = makes }
can-move setup before flow after Went can (event, passes, makes) = record { event = event; makes = makes }

-- ---- draining

pub first-lowest : (setup : Setup) (entries : List Entry) (flow : ℕ) → IsFirstFrom setup entries 0 flow
    → IsLowest setup entries flow
first-lowest setup entries flow first =
    record { can = first.can; least = λ other can. by other can (cases_lt other flow) }
  where
    by : (other : ℕ) → CanGoOn setup entries other → (other < flow) ⊎ (flow ≤ other) → flow ≤ other
    by other can (inl lt) = absurd (first.first other can (before-from_zero other flow lt))
    by other can (inr le) = le

-- what is kept while a core is drained
abbrev pub IsDraining : Setup → List Entry → List Entry → Type 0
IsDraining setup old new = IsScheduling (IsLowestsTurn setup old) setup old new

-- who can go on makes no wait
lowest-no_wait : (setup : Setup) (old since : List Entry) (flow : FlowNo) (event : Event)
    → IsAllowed (IsLowestsTurn setup old) setup old since flow event
    → IsNoWait (record { flow = flow; event = event })
lowest-no_wait setup old since flow event is key mode e =
    let lowest = is.allowed in
    let can = lowest.can in
    let may : IsMove setup (old ++ since) flow (Wait key mode) =
    subst (λ (own : Event). IsMove setup (old ++ since) flow own) e is.move in
    can.free may.blocked

module _ (setup : Setup) (old new : List Entry) (kept : IsDraining setup old new) where
  draining-no_wait : AllByRecursion IsNoWait kept.more
  draining-no_wait =
      each-holds (IsAllowed (IsLowestsTurn setup old) setup old) IsNoWait (lowest-no_wait setup old) kept.more kept.each

  draining-growth : length kept.more ≤ sum_below (room_of setup old) (length setup.items)
  draining-growth =
      growth_is_bounded setup old kept.more (subst (IsLegal setup) kept.added kept.legal) draining-no_wait

  -- it doesn't go on for ever
  pub draining-few : length new ≤ length old + sum_below (room_of setup old) (length setup.items)
  draining-few =
      let few = draining-growth in
      let whole = ap length kept.added ∙ length-append old kept.more in
      omega (arith, few, whole)

  pub drained : ((flow : ℕ) → IsLive setup new flow → ⊥) → DrainsTo setup old new
  drained over = record {
    scheduled = scheduled (IsLowestsTurn setup old) setup old new kept over;
    whole = none_live_is_whole setup new kept.legal over;
    no_wait = draining-no_wait;
    few = draining-growth;
  }

-- what the candidates learn after a move
pub lags : (setup : Setup) (entries after : List Entry) (pools : Pools) (from : ℕ) (flow : FlowNo)
    → Covers setup entries pools from → IsReady pools flow.0 → Moves setup entries flow after
    → Lags setup after pools from
lags setup entries after pools from flow covers ready moves = let makes = moves.makes in record {
  before = entries;
  flow = flow;
  event = moves.event;
  added = makes.added;
  was = from;
  covers = covers;
  ready = ready;
  later = λ one other key mode is fresh apart before. before;
}

-- one turn of a core that is drained
module _ {L : Type 0} (meaning : L → LibraryMeaning) (start old new : CoreState L) (pools : Pools) (flow : FlowNo)
    (turn : Turn)
    (same : SameSetting start old) (kept : IsDraining (setup_in meaning start) start.entries old.entries)
    (chosen : IsChosen (setup_in meaning old) old.entries pools 0 flow.0)
    (stays : SameSetting old new) (takes : TakesTurn (setup_in meaning old) old.entries flow new.entries turn) where
  own-moves : Moves (setup_in meaning old) old.entries flow new.entries
  own-moves = can-move (setup_in meaning old) old.entries flow new.entries turn (let first = chosen.first in first.can)
      takes

  start-moves : Moves (setup_in meaning start) old.entries flow new.entries
  start-moves = subst (λ s. Moves s old.entries flow new.entries) (same-setup meaning start old same) own-moves

  pub turn-drains : IsDraining (setup_in meaning start) start.entries new.entries
  turn-drains =
      let setup = setup_in meaning start in
      let moves = start-moves in
      scheduling-more (IsLowestsTurn setup start.entries) setup start.entries old.entries kept new.entries flow
      moves.event
      (subst (λ es. IsLowest setup es flow.0) kept.added
      (subst (λ s. IsLowest s old.entries flow.0) (same-setup meaning start old same)
      (first-lowest (setup_in meaning old) old.entries flow.0 chosen.first))) moves.makes

  pub turn-lags : Covers (setup_in meaning old) old.entries pools 0 → Lags (setup_in meaning new) new.entries pools 0
  turn-lags covers = subst (λ s. Lags s new.entries pools 0) (sym (same-setup meaning old new stays))
      (lags (setup_in meaning old) old.entries new.entries pools 0 flow covers
      (let earliest = chosen.earliest in earliest.is) own-moves)

  pub turn-longer : length new.entries ≡ length old.entries + 1
  turn-longer = let moves = own-moves in
      move-longer (setup_in meaning old) old.entries new.entries flow moves.event moves.makes

  pub turn-legal : GoesOnLegally meaning start new
  turn-legal = let drains = turn-drains in goes-on meaning start new (same-then start old new same stays) drains.more
      drains.added drains.legal
