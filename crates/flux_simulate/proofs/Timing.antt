-- A journal with ticks is kept, with one entry more at the tick.
use Rattle.std.proofs.Common.{◌≤◌, ◌-◌, ℕ, List, [], ◌∷◌, ◌++◌, length, length-append, sym, subst, arith}
use Rattle.std.specs.List.{AllByRecursion}
use Rattle.std.specs.List.Sorted.{IsNonDecreasing}
use Rattle.std.proofs.lemmas.List.Elements.{All-from_recursion}
use Rattle.std.proofs.lemmas.List.Sorted.{IsNonDecreasingBy-push}
use Rattle.flux_model.specs.declared.items.FlowNo.{FlowNo}
use Rattle.flow_model.specs.declared.journals.Entry.{Entry}
use Rattle.flow_model.specs.declared.journals.Event.{Event}
use Rattle.flow_model.specs.Setup.{Setup}
use Rattle.flux_laws.specs.Growth.{IsNoWait}
use Rattle.flux_laws.proofs.Members.{all-more}
use Rattle.flow_orders.specs.Ticks.{timed}
use Rattle.flow_orders.specs.Rule.{IsTurnAt, ComeInTurn}
use Rattle.flux_simulate.specs.steps.Ticking.{IsTimed}
use Rattle.flux_simulate.proofs.Journals.{timed-more, turns-more}

rising-more : (at : List ℕ) (tick : ℕ) → IsNonDecreasing at → AllByRecursion (λ a. a ≤ tick) at
    → IsNonDecreasing (at ++ tick ∷ [])
rising-more at tick rising past = IsNonDecreasingBy-push (λ x. x) at tick rising
    (λ d some. All-from_recursion (λ a. a ≤ tick) at past (length at - 1) d (omega (arith, some)))

pub timed-on : (setup : Setup) (entries : List Entry) (at : List ℕ) (tick : ℕ) (flow : FlowNo) (event : Event)
    → IsTimed setup entries at tick → IsTurnAt setup (timed at entries) tick flow event
    → IsNoWait (record { flow = flow; event = event })
    → IsTimed setup (entries ++ record { flow = flow; event = event } ∷ []) (at ++ tick ∷ []) tick
timed-on setup entries at tick flow event is turn no_wait = record {
  each =
      let a = length-append at (tick ∷ []) in
      let b = length-append entries (record { flow = flow; event = event } ∷ []) in
      let same = is.each in
      omega (arith, a, b, same);
  rising = rising-more at tick is.rising is.past;
  past = all-more (λ a. a ≤ tick) at tick is.past (omega arith);
  turns = subst (ComeInTurn setup) (sym (timed-more at entries tick (record { flow = flow; event = event }) is.each))
      (turns-more setup (timed at entries) tick flow event is.turns turn);
  no_wait = all-more IsNoWait entries (record { flow = flow; event = event }) is.no_wait no_wait;
}
