-- No run stops after the last tick.
use Rattle.std.proofs.Common.{◌≡◌, ◌<◌, ◌≤◌, ◌-◌, ℕ, zero, suc, List, [], ◌∷◌, ◌++◌, map, length, refl, sym, ap, subst, ◌∙◌, arith}
use Rattle.std.specs.List.{slice_get, slice_index_or, AllByRecursion}
use Rattle.std.specs.List.Sorted.{IsNonDecreasing}
use Rattle.std.specs.Option.{unwrap_or}
use Rattle.flux_model.specs.declared.items.FlowNo.{FlowNo}
use Rattle.flow_model.specs.declared.journals.Entry.{Entry}
use Rattle.flow_model.specs.declared.journals.Event.{Event}
use Rattle.flow_model.specs.declared.journals.Event.TheVariants.{Take, Wait, Enter, Choose, Call, Exit, Drop, End}
use Rattle.flow_orders.specs.declared.runs.Run.{Run}
use Rattle.flow_orders.specs.Ticks.{timed, last_tick}
use Rattle.flow_orders.specs.Runs.{CallEnd, end_of, ends_by, ends_in}

-- ---- ticks

-- a list's place in either spelling
same_at : (at : List ℕ) (place d : ℕ) → place < length at → unwrap_or (slice_get at place) 0 ≡ slice_index_or at place d
same_at [] place d lt = absurd (omega (arith, lt))
same_at (t ∷ at) zero d lt = refl
same_at (t ∷ at) (suc place) d lt = same_at at place d (omega (arith, lt))

-- what holds at each place holds of all
by_place : (most : ℕ) (at : List ℕ) → ((place : ℕ) → place < length at → slice_index_or at place 0 ≤ most)
    → AllByRecursion (λ t. t ≤ most) at
by_place most [] each = tt
by_place most (t ∷ at) each = (
  each zero (omega arith),
  by_place most at
      (λ place lt. each (suc place) (omega (arith, lt))),
)

-- none is past the last
none_past : (at : List ℕ) → IsNonDecreasing at → AllByRecursion (λ t. t ≤ last_tick at) at
none_past at rising = by_place (last_tick at) at (λ place lt.
    let last = length at - 1 in
    let within : last < length at = omega (arith, lt) in
    let same = same_at at last 0 within in
    let le = rising place last 0 (omega (arith, lt)) within in
    omega (arith, same, le))

-- ---- calls

all_join : {X : Type 0} (P : X → Type 0) (a b : List X) → AllByRecursion P a → AllByRecursion P b
    → AllByRecursion P (a ++ b)
all_join P [] b first second = second
all_join P (x ∷ a) b first second = (first.0, all_join P a b first.1 second)

abbrev EndsBy : ℕ → CallEnd → Type 0
EndsBy most end = end.tick ≤ most

one_end : (most tick : ℕ) (flow : FlowNo) (event : Event) → tick ≤ most
    → AllByRecursion (EndsBy most) (ends_by tick flow event)
one_end most tick flow (Call made) le = (le, tt)
one_end most tick flow (Take key mode) le = tt
one_end most tick flow (Wait key mode) le = tt
one_end most tick flow (Enter node) le = tt
one_end most tick flow (Choose place) le = tt
one_end most tick flow (Exit node outcome) le = tt
one_end most tick flow (Drop key) le = tt
one_end most tick flow (End outcome) le = tt

all_ends : (most : ℕ) (at : List ℕ) (entries : List Entry) → AllByRecursion (λ t. t ≤ most) at
    → AllByRecursion (EndsBy most) (ends_in (timed at entries))
all_ends most [] entries past = tt
all_ends most (tick ∷ at) [] past = tt
all_ends most (tick ∷ at) (entry ∷ entries) past =
    all_join (EndsBy most) (ends_by tick entry.flow entry.event) (ends_in (timed at entries))
    (one_end most tick entry.flow entry.event past.0) (all_ends most at entries past.1)

from_ends : (most : ℕ) (runs : List Run) → AllByRecursion (EndsBy most) (map end_of runs) → AllByRecursion
    (λ run. run.stop ≤ most) runs
from_ends most [] all = tt
from_ends most (run ∷ runs) all = (all.0, from_ends most runs all.1)

-- ---- runs

pub stop_in_time : (at : List ℕ) (entries : List Entry) (runs : List Run) (ticks : ℕ) → IsNonDecreasing at
    → map end_of runs ≡ ends_in (timed at entries) → ticks ≡ last_tick at → AllByRecursion
    (λ run. run.stop ≤ ticks) runs
stop_in_time at entries runs ticks rising are last =
    subst (λ (t : ℕ). AllByRecursion (λ (run : Run). run.stop ≤ t) runs) (sym last)
    (from_ends (last_tick at) runs
    (subst (AllByRecursion (EndsBy (last_tick at))) (sym are) (all_ends (last_tick at) at entries (none_past at
    rising))))
