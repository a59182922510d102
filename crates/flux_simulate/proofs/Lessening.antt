-- What can still come grows less with each entry, and with each call that is begun.
use Rattle.std.proofs.Common.{◌≡◌, ◌<◌, ◌≤◌, ◌+◌, ◌-◌, ℕ, Bool, true, false, List, [], ◌∷◌, length, Option, length-append, refl, ap, subst, arith}
use Rattle.std.specs.List.{count_by}
use Rattle.std.specs.Option.{is_some}
use Rattle.std.proofs.lemmas.List.Sums.{sum_by-cons}
use Rattle.flux_values.specs.Meanings.{LibraryMeaning}
use Rattle.flow_model.specs.Setup.{Setup}
use Rattle.flow_state.specs.declared.inputs.Inputs.{Inputs}
use Rattle.flow_state.specs.States.{SetupState}
use Rattle.flow_core.specs.States.{CoreState, setup_in, IsKept}
use Rattle.flow_waits.proofs.Counting.{most_entries, few-entries}
use Rattle.flow_orders.specs.declared.runs.Run.{Run}
use Rattle.flux_simulate.specs.steps.Changes.{IsOut}
use Rattle.flux_simulate.specs.steps.Calls.{begun_count, HasStarted}
use Rattle.flux_simulate.specs.steps.Ticking.{one_if, GoesFurther}
use Rattle.flux_simulate.proofs.Tallies.{count_one}
use Rattle.flux_simulate.proofs.Further.{further-setup}

pub count-most : {X : Type 0} (test : X → Bool) (xs : List X) → count_by test xs ≤ length xs
count-most test [] = omega arith
count-most test (x ∷ xs) =
    let one = sum_by-cons (λ y. count_one (test y)) x xs in
    let own = most (test x) in
    let more = count-most test xs in
    omega (arith, one, own, more)
  where
    most : (b : Bool) → count_one b ≤ 1
    most true = omega arith
    most false = omega arith

-- a list of which one is taken out is shorter
pub out-shorter : (old : List Run) (run : Run) (new : List Run) → IsOut old run new → length new < length old
out-shorter old run new out =
    let was = ap length out.was in
    let long = length-append out.front (run ∷ out.back) in
    let is = ap length out.is in
    let short = length-append out.front out.back in
    omega (arith, was, long, is, short)

module _ {L : Type 0} (meaning : L → LibraryMeaning) (start old new : CoreState L) (further : GoesFurther start new)
    (kept : IsKept meaning new) where
  abbrev most : ℕ
  most = most_entries (setup_in meaning start)

  few : length new.entries ≤ most
  few = subst (λ (s : Setup). length new.entries ≤ most_entries s) (further-setup meaning start new further)
      (few-entries (setup_in meaning new) new.entries kept.legal)

  few-begun : begun_count new ≤ length start.setup.items
  few-begun =
      let count : begun_count new ≤ length new.begun =
      count-most (λ (call : Option Inputs). is_some call) new.begun in
      let each : length new.begun ≡ length new.setup.items = kept.each in
      let setup : new.setup ≡ start.setup = let on = further.on in on.setup_ in
      let same : length new.setup.items ≡ length start.setup.items =
      ap (λ (s : SetupState L). length s.items) setup in
      omega (arith, count, each, same)

  pub longer-lessens : length old.entries < length new.entries
      → most - length new.entries < most - length old.entries
  longer-lessens longer = let bound = few in omega (arith, longer, bound)

  pub started-lessens : HasStarted old new
      → (most + length start.setup.items) - (length new.entries + begun_count new)
      < (most + length start.setup.items) - (length old.entries + begun_count old)
  started-lessens started =
      let more : length old.entries + begun_count old < length new.entries + begun_count new = started in
      let bound = few in
      let calls = few-begun in
      omega (arith, more, bound, calls)

-- a core that went on is no shorter
pub further-longer : {L : Type 0} (old new : CoreState L) → GoesFurther old new
    → length old.entries ≤ length new.entries
further-longer old new further =
    let on = further.on in
    let same = ap length on.added in
    let both = length-append old.entries on.more in
    omega (arith, same, both)

-- a tick that is done, or the last, after which there is none
pub tick-lessens : {L : Type 0} (meaning : L → LibraryMeaning) (start old new : CoreState L) → GoesFurther start new
    → IsKept meaning new → GoesFurther old new → (was now : Bool) → was ≡ true
    → (now ≡ true → length old.entries < length new.entries)
    → (most_entries (setup_in meaning start) - length new.entries) + one_if now
    < (most_entries (setup_in meaning start) - length old.entries) + one_if was
tick-lessens meaning start old new further kept on was true more longer =
    let less = longer-lessens meaning start old new further kept (longer refl) in
    let one = ap one_if more in
    omega (arith, less, one)
tick-lessens meaning start old new further kept on was false more longer =
    let less = further-longer old new on in
    let one = ap one_if more in
    omega (arith, less, one)
