-- Runs on so many processors last no longer together than all of these have up to the last stop.
use Rattle.std.proofs.Common.{◌≡◌, ◌<◌, ◌≤◌, ◌-◌, ◌+◌, ◌*◌, ◌⊎◌, inl, inr, ℕ, zero, suc, Bool, true, false, cond, leb, ltb, List, [], ◌∷◌, refl, ap, arith}
use Rattle.std.specs.List.{count_by, sum_by, AllByRecursion}
use Rattle.std.proofs.lemmas.Bool.{cases_lt, le-leb, lt-leb, lt-ltb, le-ltb, and_from, and_left, and_right}
use Rattle.std.proofs.lemmas.List.Sums.{sum_by-cons}
use Rattle.flow_orders.specs.declared.runs.Run.{Run}
use Rattle.flow_orders.specs.Costs.{cost_of}
use Rattle.flow_orders.specs.Runs.{covers, running_at, NeverMoreRuns, sum_of_costs}
use Rattle.simulated_items.specs.steps.Work.{work_of}

-- how long a run has lasted by a tick
abbrev by_tick : ℕ → Run → ℕ
by_tick t run = (t - run.start) - (t - run.stop)

abbrev one_if : Bool → ℕ
one_if is = cond is 1 0

-- a tick more where the run covers it
tick_more : (t : ℕ) (run : Run) → by_tick (suc t) run ≡ by_tick t run + one_if (covers t run)
tick_more t run = at (cases_lt t run.start) (cases_lt t run.stop)
  where
    at : (t < run.start) ⊎ (run.start ≤ t) → (t < run.stop) ⊎ (run.stop ≤ t)
        → by_tick (suc t) run ≡ by_tick t run + one_if (covers t run)
    at (inl early) other =
        let none = ap one_if (and_left (leb run.start t) (ltb t run.stop) (lt-leb run.start t early)) in
        omega (arith, none, early)
    at (inr begun) (inl on) =
        let one = ap one_if (and_from (leb run.start t) (ltb t run.stop) (le-leb run.start t begun) (lt-ltb t run.stop
        on)) in
        omega (arith, one, begun, on)
    at (inr begun) (inr over) =
        let none = ap one_if (and_right (leb run.start t) (ltb t run.stop) (le-ltb t run.stop over)) in
        omega (arith, none, begun, over)

all_more : (t : ℕ) (runs : List Run) → sum_by (by_tick (suc t)) runs ≡ sum_by (by_tick t) runs + running_at runs t
all_more t [] = refl
all_more t (run ∷ runs) =
    let later = sum_by-cons (by_tick (suc t)) run runs in
    let now = sum_by-cons (by_tick t) run runs in
    let counted = sum_by-cons (λ r. one_if (covers t r)) run runs in
    let own = tick_more t run in
    let more = all_more t runs in
    omega (arith, later, now, counted, own, more)

none_yet : (runs : List Run) → sum_by (by_tick zero) runs ≡ 0
none_yet [] = refl
none_yet (run ∷ runs) =
    let one = sum_by-cons (by_tick zero) run runs in
    let more = none_yet runs in
    omega (arith, one, more)

fits_by : (processors : ℕ) (runs : List Run) → NeverMoreRuns processors runs → (t : ℕ)
    → sum_by (by_tick t) runs ≤ processors * t
fits_by processors runs few zero = let none = none_yet runs in omega (arith, none)
fits_by processors runs few (suc t) =
    let so = fits_by processors runs few t in
    let more = all_more t runs in
    let own = few t in
    omega (arith, so, more, own)

-- by the last stop each run has lasted from its start to its stop
whole : (ticks : ℕ) (runs : List Run) → AllByRecursion (λ run. run.stop ≤ ticks) runs
    → AllByRecursion (λ run. run.start ≤ run.stop) runs → work_of runs ≡ sum_by (by_tick ticks) runs
whole ticks [] ended lasting = refl
whole ticks (run ∷ runs) ended lasting =
    let here = sum_by-cons (λ (r : Run). r.stop - r.start) run runs in
    let there = sum_by-cons (by_tick ticks) run runs in
    let over = ended.0 in
    let own = lasting.0 in
    let more = whole ticks runs ended.1 lasting.1 in
    omega (arith, here, there, over, own, more)

pub work_fits : (processors ticks : ℕ) (runs : List Run) → NeverMoreRuns processors runs
    → AllByRecursion (λ run. run.stop ≤ ticks) runs → AllByRecursion (λ run. run.start ≤ run.stop) runs
    → work_of runs ≤ processors * ticks
work_fits processors ticks runs few ended lasting =
    let all = whole ticks runs ended lasting in
    let fits = fits_by processors runs few ticks in
    omega (arith, all, fits)

-- ---- what runs cost is what they last

pub all_last : (costs : List ℕ) (runs : List Run) → AllByRecursion
    (λ run. run.stop ≡ run.start + cost_of costs run.node) runs
    → AllByRecursion (λ run. run.start ≤ run.stop) runs
all_last costs [] last = tt
all_last costs (run ∷ runs) last = let own = last.0 in (omega (arith, own), all_last costs runs last.1)

pub work_costs : (costs : List ℕ) (runs : List Run) → AllByRecursion
    (λ run. run.stop ≡ run.start + cost_of costs run.node) runs
    → work_of runs ≡ sum_of_costs costs runs
work_costs costs [] last = refl
work_costs costs (run ∷ runs) last =
    let here = sum_by-cons (λ (r : Run). r.stop - r.start) run runs in
    let there = sum_by-cons (λ (r : Run). cost_of costs r.node) run runs in
    let own = last.0 in
    let more = work_costs costs runs last.1 in
    omega (arith, here, there, own, more)

-- ---- sums so far

-- the first runs last no longer than all
pub work_so_far : (front : List Run) (run : Run) → work_of (run ∷ front) ≡ run.stop - run.start + work_of front
work_so_far front run = sum_by-cons (λ (r : Run). r.stop - r.start) run front
