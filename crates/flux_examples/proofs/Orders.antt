-- Why a journal is in an order, and why others aren't.
use Rattle.std.proofs.Common.{◌≡◌, ◌<◌, ℕ, zero, suc, ap, inl, inr, List, [], ◌∷◌, ◌++◌, drop, sym, subst, ◌∙◌, arith}
use Rattle.flux_model.specs.declared.items.FlowNo.{FlowNo}
use Rattle.flow_model.specs.declared.journals.Entry.{Entry}
use Rattle.flow_model.specs.declared.journals.Event.{Event}
use Rattle.flow_model.specs.declared.journals.Event.TheVariants.{Enter, Wait}
use Rattle.flow_model.specs.Events.{IsLive}
use Rattle.flux_laws.specs.Going.{IsBlocked, CanGoOn}
use Rattle.flow_orders.specs.Turns.{MakesMove}
use Rattle.flow_orders.specs.Drains.{DrainsTo}
use Rattle.flow_orders.specs.Round.{EndsTurn, IsOnTurn, LooksFrom, HasTurn}
use Rattle.flow_orders.specs.Follow.{IsTurn}
use Rattle.flux_examples.proofs.Ends.{nothing_past}
use Rattle.flux_examples.specs.Small.{no, by}
use Rattle.flux_examples.specs.Orders.{side_by_side, RoundBeginsWithTheFirst, TurnsLast, ListedComeFirst, LowestComesFirst}

-- the number of the flow of the first entry, and of the second
abbrev first_flow : List Entry → ℕ
first_flow [] = 7
first_flow (x ∷ entries) = let flow = x.flow in flow.0

abbrev second_flow : List Entry → ℕ
second_flow [] = 7
second_flow (x ∷ entries) = first_flow entries

-- at the beginning each of the two flows can go on
live : (flow : ℕ) → flow < 2 → IsLive side_by_side [] flow
live flow less = record { item = less; goes_on = λ outcome has. let less = has.1 in omega (arith, less) }

not_blocked : (flow : ℕ) → flow < 2 → IsBlocked side_by_side [] flow → ⊥
not_blocked zero less (other, waits) = let next = waits.next in let e = next.next in absurd cc
not_blocked (suc zero) less (other, waits) = let next = waits.next in let e = next.next in absurd cc
not_blocked (suc (suc flow)) less blocked = absurd (omega (arith, less))

can : (flow : ℕ) → flow < 2 → CanGoOn side_by_side [] flow
can flow less = record { live = live flow less; free = not_blocked flow less }

-- no entry has been made, so no turn is going on, and none has ended
nobody_on_turn : (flow : FlowNo) → IsOnTurn [] flow → ⊥
nobody_on_turn flow on = nothing_past on.front (record { flow = flow; event = on.event }) [] on.last

from_start : (from : ℕ) → LooksFrom [] from → from ≡ 0
from_start from (inl (none, start)) = start
from_start from (inr (flow, had, next)) =
    absurd (nothing_past had.front (record { flow = flow; event = had.event }) [] had.last)

pub first_begins : RoundBeginsWithTheFirst
first_begins later round = by_turn (let stands = round.each [] later (record { 0 = 1 }) (Enter (no 1)) (sym round.added) in stands.allowed)
  where
    by_turn : HasTurn side_by_side [] [] (record { 0 = 1 }) → ⊥
    by_turn (inl on) = nobody_on_turn (record { 0 = 1 }) on
    by_turn (inr (from, looks, first)) =
        let start = from_start from looks in
        first.first 0 (can 0 (omega arith)) (inl (omega (arith, start), inl (omega arith)))

-- the only entry of a list
only : (x : Entry) (front : List Entry) (y : Entry) → x ∷ [] ≡ front ++ y ∷ [] → y ≡ x
only x [] y e = ap (λ (entries : List Entry). elim entries as (λ _. Entry) [ [] ↦ x | z ∷ zs ↦ z ]) (sym e)
only x (z ∷ front) y e = absurd (nothing_past front y [] (ap (drop 1) e))

-- what an entry's event ends
abbrev event_of : Entry → Event
event_of x = x.event

pub turns_last : TurnsLast
turns_last later round = by_turn (let stands = round.each entered later (record { 0 = 1 }) (Enter (no 1)) (sym round.added) in stands.allowed)
  where
    entered : List Entry
    entered = by 0 (Enter (no 0)) ∷ []

    by_turn : HasTurn side_by_side [] entered (record { 0 = 1 }) → ⊥
    by_turn (inl on) =
        let same = only (by 0 (Enter (no 0))) on.front (record { flow = record { 0 = 1 }; event = on.event }) on.last in
        let flows : 1 ≡ 0 = ap (λ (x : Entry). let flow = x.flow in flow.0) same in omega (arith, flows)
    by_turn (inr (from, inl (none, start), first)) = absurd cc
    by_turn (inr (from, inr (flow, had, next), first)) =
        let same = only (by 0 (Enter (no 0))) had.front (record { flow = flow; event = had.event }) had.last in
        subst (λ (event : Event). EndsTurn event) (ap event_of same) had.over

-- a flow's move is the first entry of what comes of it
moved_first : (flow : FlowNo) (event : Event) (between : List Entry) → MakesMove side_by_side [] flow event between
    → (more : List Entry) → first_flow (between ++ more) ≡ flow.0
moved_first flow event between makes more = ap (λ (entries : List Entry). first_flow (entries ++ more)) makes.added

pub listed_first : ListedComeFirst
listed_first later follow = by_turn (let (between, turn, same) = follow.turns in turn)
  where
    between : List Entry
    between = let turns = follow.turns in turns.0

    more : List Entry
    more = let drains = follow.drains in let scheduled = drains.scheduled in scheduled.more

    is_new : by 0 (Enter (no 0)) ∷ later ≡ between ++ more
    is_new = let turns = follow.turns in let drains = follow.drains in let scheduled = drains.scheduled in
        scheduled.added ∙ ap (λ (entries : List Entry). entries ++ more) turns.2

    by_turn : IsTurn side_by_side [] (record { 0 = 1 }) between → ⊥
    by_turn (inl (inl ended, same)) = ended (live 1 (omega arith))
    by_turn (inl (inr line, same)) = let stands = line.stands in
        nothing_past stands.before (by 1 (Wait line.key line.mode)) stands.after stands.stands
    by_turn (inr (event, makes)) =
        let flows : 0 ≡ 1 = ap first_flow is_new ∙ moved_first (record { 0 = 1 }) event between makes more in
        omega (arith, flows)

pub lowest_first : LowestComesFirst
lowest_first later follow = by_listed follow.listed follow.turns follow.drains
  where
    by_listed : (listed : List Entry) → listed ≡ [] → DrainsTo side_by_side listed (by 1 (Enter (no 1)) ∷ later) → ⊥
    by_listed [] none drains =
        let scheduled = drains.scheduled in
        let stands = scheduled.each [] later (record { 0 = 1 }) (Enter (no 1)) (sym scheduled.added) in
        let lowest = stands.allowed in
        let less = lowest.least 0 (can 0 (omega arith)) in omega (arith, less)
    by_listed (x ∷ listed) none drains = absurd cc
