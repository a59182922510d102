-- How large a tick can be: no larger than all work that is done.
use Rattle.std.proofs.Common.{◌*◌, ◌≡◌, ◌<◌, ◌≤◌, ◌+◌, ◌-◌, ℕ, zero, suc, List, [], ◌∷◌, length, Option, Some, length-append, refl, ap, arith}
use Rattle.std.specs.List.{AllByRecursion, sum_by, slice_get, slice_index}
use Rattle.std.proofs.lemmas.List.{length-map}
use Rattle.std.proofs.lemmas.List.Sums.{sum_by-cons}
use Rattle.flux_values.specs.Meanings.{LibraryMeaning}
use Rattle.flux_model.specs.declared.items.FlowNo.{FlowNo}
use Rattle.flux_model.specs.declared.items.Item.{Item}
use Rattle.flow_model.specs.declared.journals.Entry.{Entry}
use Rattle.flow_model.specs.declared.journals.Event.{Event}
use Rattle.flow_model.specs.declared.journals.Event.TheVariants.{Take, Wait, Enter, Choose, Call, Exit, Drop, End}
use Rattle.flux_laws.specs.Growth.{item_size, flow_size, sum_below}
use Rattle.flow_core.specs.States.{CoreState, setup_in, IsKept}
use Rattle.flow_waits.proofs.Counting.{few-entries}
use Rattle.flow_orders.specs.declared.runs.Run.{Run}
use Rattle.flux_simulate.specs.declared.clock.Clock.{Clock}
use Rattle.flow_orders.specs.Costs.{cost_of}
use Rattle.flow_orders.specs.Ticks.{timed}
use Rattle.flow_orders.specs.Runs.{end_of, ends_by, ends_in, sum_of_costs}
use Rattle.flux_simulate.specs.steps.Calls.{AreSmall}
use Rattle.flux_simulate.specs.steps.Ticking.{IsOn, Lasts, AllLast, Ticks}
use Rattle.flux_simulate.proofs.Tallies.{all-map, all-both, sum-same, sum-most}

-- ---- costs

cost-most : (costs : List ℕ) (place : ℕ) → AllByRecursion (λ cost. (1 ≤ cost) × (cost ≤ 1000)) costs
    → slice_index costs place ≤ 1000
cost-most [] place all = omega arith
cost-most (cost ∷ costs) zero all = let own = all.0 in own.1
cost-most (cost ∷ costs) (suc place) all = cost-most costs place all.1

pub cost-least : (costs : List ℕ) (place cost : ℕ) → AllByRecursion (λ c. (1 ≤ c) × (c ≤ 1000)) costs
    → slice_get costs place ≡ Some cost → (slice_index costs place ≡ cost) × (1 ≤ cost) × (cost ≤ 1000)
cost-least [] place cost all is = absurd cc
cost-least (c ∷ costs) zero cost all is =
    let same : c ≡ cost = cc in
    let own = all.0 in
    let low = own.0 in
    let high = own.1 in
    (same, omega (arith, low, same), omega (arith, high, same))
cost-least (c ∷ costs) (suc place) cost all is = cost-least costs place cost all.1 is

-- what runs took is what they cost
pub took-cost : (costs : List ℕ) (runs : List Run) → AllByRecursion (Lasts costs) runs
    → sum_by (λ (run : Run). run.stop - run.start) runs ≡ sum_of_costs costs runs
took-cost costs runs last = sum-same (λ (run : Run). run.stop - run.start) (λ (run : Run). cost_of costs run.node) runs
    (all-map (Lasts costs) (λ run. run.stop - run.start ≡ cost_of costs run.node)
    (λ run lasts. omega (arith, lasts)) runs last)

-- ---- how many calls there are

few-ends : (tick : ℕ) (flow : FlowNo) (event : Event) → length (ends_by tick flow event) ≤ 1
few-ends tick flow (Call made) = omega arith
few-ends tick flow (Take key mode) = omega arith
few-ends tick flow (Wait key mode) = omega arith
few-ends tick flow (Enter node) = omega arith
few-ends tick flow (Choose place) = omega arith
few-ends tick flow (Exit node outcome) = omega arith
few-ends tick flow (Drop key) = omega arith
few-ends tick flow (End outcome) = omega arith

ends-few : (at : List ℕ) (entries : List Entry) → length (ends_in (timed at entries)) ≤ length entries
ends-few [] entries = omega arith
ends-few (tick ∷ at) [] = omega arith
ends-few (tick ∷ at) (entry ∷ entries) =
    let more = ends-few at entries in
    let one = few-ends tick entry.flow entry.event in
    let both = length-append (ends_by tick entry.flow entry.event) (ends_in (timed at entries)) in
    omega (arith, more, one, both)

-- ---- sizes

sum-front : (f : ℕ → ℕ) (count : ℕ) → sum_below f (suc count) ≡ f 0 + sum_below (λ k. f (suc k)) count
sum-front f zero = omega arith
sum-front f (suc count) = let more = sum-front f count in omega (arith, more)

sizes-are : (size : Option Item → ℕ) (items : List Item)
    → sum_below (λ flow. size (slice_get items flow)) (length items) ≡ sum_by (λ item. size (Some item)) items
sizes-are size [] = refl
sizes-are size (item ∷ items) =
    let front = sum-front (λ flow. size (slice_get (item ∷ items) flow)) (length items) in
    let more = sizes-are size items in
    let one = sum_by-cons (λ (i : Item). size (Some i)) item items in
    omega (arith, front, more, one)

module _ {L : Type 0} (meaning : L → LibraryMeaning) (core : CoreState L) (clock : Clock) (costs : List ℕ)
    (kept : IsKept meaning core) (small : AreSmall meaning core costs clock.processors) (ticks : Ticks meaning core clock)
    (last : AllLast costs clock) where
  few : length core.entries ≤ 8392704
  few =
      let setup = setup_in meaning core in
      let most = few-entries setup core.entries kept.legal in
      let sizes : sum_below (flow_size setup) (length setup.items) ≡ sum_by (λ item. item_size setup (Some item)) setup.items =
      sizes-are (item_size setup) setup.items in
      let limit = small.sizes in
      let items = kept.few in
      omega (arith, most, sizes, limit, items)

  ended-few : length clock.ended ≤ 8392704
  ended-few =
      let runs = ticks.runs in
      let calls = ap length runs.ends in
      let same = length-map clock.ended end_of in
      let most = ends-few clock.at core.entries in
      let all = few in
      omega (arith, calls, same, most, all)

  took-few : sum_by (λ (run : Run). run.stop - run.start) clock.ended ≤ 1000 * length clock.ended
  took-few =
      let all = small.costs_ in
      sum-most (λ (run : Run). run.stop - run.start) 1000 clock.ended
      (all-map (Lasts costs) (λ run. run.stop - run.start ≤ 1000)
      (λ run lasts. let node = run.node in let most = cost-most costs node.0 all.within in omega (arith, lasts, most))
      clock.ended last.ended)

  -- so is what all calls cost
  pub costs-small : sum_of_costs costs clock.ended < 9000000000
  costs-small =
      let cost = took-cost costs clock.ended last.ended in
      let took = took-few in
      let many = ended-few in
      omega (arith, cost, took, many)

  pub tick-small : clock.tick < 9000000000
  tick-small =
      let runs = ticks.runs in
      let busy = runs.busy in
      let all = small.costs_ in
      let ended = took-few in
      let running = sum-most (λ (run : Run). clock.tick - run.start) 1000 clock.running
      (all-both (Lasts costs) (IsOn clock.tick) (λ run. clock.tick - run.start ≤ 1000)
      (λ run lasts is. let node = run.node in let most = cost-most costs node.0 all.within in let on = is.on in
      omega (arith, lasts, most, on)) clock.running last.running runs.on) in
      let many = ended-few in
      let room = ticks.room in
      let processors = small.processors_ in
      omega (arith, busy, ended, running, many, room, processors)
