-- When all of a tick is done, each live flow is blocked, or its call runs, or waits for a processor.
use Rattle.std.proofs.Common.{◌≡◌, ◌<◌, ◌≤◌, ◌+◌, ◌⊎◌, inl, inr, ℕ, Bool, true, false, eqb, leb, ◌&&◌, List, ◌++◌, length, Option, Some, None, refl, sym, ap, subst, ◌∙◌, arith}
use Rattle.std.specs.List.{AllByRecursion}
use Rattle.std.specs.Option.{is_some}
use Rattle.std.proofs.lemmas.Bool.{cases_eq, ne_eqb, and_left}
use Rattle.std.proofs.lemmas.List.Sums.{sum_by-append}
use Rattle.flux_values.specs.Meanings.{LibraryMeaning}
use Rattle.flow_model.specs.declared.journals.Entry.{Entry}
use Rattle.flow_model.specs.Setup.{Setup}
use Rattle.flow_model.specs.Events.{IsLive}
use Rattle.flux_laws.specs.Going.{IsAtCall}
use Rattle.flow_state.specs.declared.inputs.Inputs.{Inputs}
use Rattle.flow_core.specs.States.{CoreState, setup_in, begun_by, IsKept}
use Rattle.flow_waits.specs.steps.Waking.{has}
use Rattle.flow_orders.specs.declared.runs.Run.{Run}
use Rattle.flux_simulate.specs.declared.clock.Clock.{Clock}
use Rattle.flow_orders.specs.Ticks.{timed, until}
use Rattle.flow_orders.specs.Runs.{covers, running_at, running_of, starting_from}
use Rattle.flow_orders.specs.Rule.{IsSettled}
use Rattle.flux_simulate.specs.steps.Ticking.{IsOn, one_if, runs_of, Rests}
use Rattle.flux_simulate.proofs.Journals.{until-all}
use Rattle.flux_simulate.proofs.Tallies.{count_one, all-map, all-both, count-none, covers-on, ended-at, ended-of, ended-from, on-at, on-of}

-- a begun call is its flow's next event
pub begun-call : {L : Type 0} (meaning : L → LibraryMeaning) (core : CoreState L) → IsKept meaning core → (flow : ℕ)
    (inputs : Inputs) → begun_by core flow ≡ Some inputs → IsAtCall (setup_in meaning core) core.entries flow
begun-call meaning core kept flow inputs is =
    (inputs.node, inputs.args, let call = kept.calls flow inputs is in call.next)

module _ {L : Type 0} (meaning : L → LibraryMeaning) (core : CoreState L) (clock : Clock) (kept : IsKept meaning core)
    (rests : Rests meaning core clock) (t : ℕ) (now : clock.tick ≤ t)
    (on : AllByRecursion (λ run. t < run.stop) clock.running) where
  abbrev setup : Setup
  setup = setup_in meaning core

  abbrev runs : List Run
  runs = clock.ended ++ clock.running

  covered : AllByRecursion (λ run. covers t run ≡ true) clock.running
  covered = let begins = rests.begins in let ticks = begins.ticks in let own = ticks.runs in
      all-both (IsOn clock.tick) (λ run. t < run.stop) (λ run. covers t run ≡ true)
      (λ run is later. covers-on t run (let begun = is.begun in omega (arith, begun, now)) later)
      clock.running own.on on

  pub at-now : running_at runs t ≡ length clock.running
  at-now =
      let begins = rests.begins in let ticks = begins.ticks in let own = ticks.runs in
      let both = sum_by-append (λ (run : Run). count_one (covers t run)) clock.ended clock.running in
      let none = ended-at t clock.tick now clock.ended own.over in
      let all = on-at t clock.running covered in
      omega (arith, both, none, all)

  pub of-now : (flow : ℕ) → running_of runs flow t ≡ runs_of clock.running flow
  of-now flow =
      let begins = rests.begins in let ticks = begins.ticks in let own = ticks.runs in
      let both = sum_by-append (λ (run : Run). count_one (eqb run.flow.0 flow && covers t run)) clock.ended clock.running in
      let none = ended-of t clock.tick now clock.ended own.over flow in
      let all = on-of t clock.running covered flow in
      omega (arith, both, none, all)

  from-now : (flow : ℕ) → has clock.waiting flow ≡ true → starting_from runs flow t ≡ 0
  from-now flow waits =
      let begins = rests.begins in let ticks = begins.ticks in let own = ticks.runs in
      let both = sum_by-append (λ (run : Run). count_one (eqb run.start t && leb flow run.flow.0)) clock.ended clock.running in
      let none = ended-from t clock.tick now clock.ended own.over flow in
      let later = by (cases_eq clock.tick t) in
      omega (arith, both, none, later)
    where
      by : (clock.tick ≡ t) ⊎ (clock.tick ≡ t → ⊥) → starting_from clock.running flow t ≡ 0
      by (inl same) = let begins = rests.begins in
          subst (λ (at : ℕ). starting_from clock.running flow at ≡ 0) same (begins.lower flow waits)
      by (inr apart) =
          let begins = rests.begins in let ticks = begins.ticks in let own = ticks.runs in
          count-none (λ (run : Run). eqb run.start t && leb flow run.flow.0) clock.running
          (all-map (IsOn clock.tick) (λ run. (eqb run.start t && leb flow run.flow.0) ≡ false)
          (λ run is. and_left (eqb run.start t) (leb flow run.flow.0)
          (ne_eqb run.start t (λ same. apart (let begun = is.begun in omega (arith, same, begun, now)))))
          clock.running own.on)

  pub few-now : running_at runs t ≤ clock.processors
  few-now = let begins = rests.begins in let ticks = begins.ticks in
      let room = ticks.room in let at = at-now in omega (arith, room, at)

  pub stands : (flow : ℕ) → IsLive setup core.entries flow → IsSettled setup clock.processors core.entries runs t flow
  stands flow live = by (begun_by core flow) refl
    where
      counts : runs_of clock.running flow + one_if (has clock.waiting flow) ≡ one_if (is_some (begun_by core flow))
      counts = let begins = rests.begins in let ticks = begins.ticks in let calls = ticks.calls in calls.each flow

      called : (inputs : Inputs) → begun_by core flow ≡ Some inputs → (waits : Bool) → has clock.waiting flow ≡ waits
          → IsSettled setup clock.processors core.entries runs t flow
      called inputs is true waits =
          let one : one_if (is_some (begun_by core flow)) ≡ 1 = ap (λ (call : Option Inputs). one_if (is_some call)) is in
          let waiting : one_if (has clock.waiting flow) ≡ 1 = ap one_if waits in
          let none : runs_of clock.running flow ≡ 0 = omega (arith, counts, one, waiting) in
          let at = at-now in
          let taken = rests.taken flow waits in
          inr (inr (
            begun-call meaning core kept flow inputs is,
            of-now flow ∙ none,
            record {
              taken = omega (arith, at, taken);
              lower = from-now flow waits;
            },
          ))
      called inputs is false waits =
          let one : one_if (is_some (begun_by core flow)) ≡ 1 = ap (λ (call : Option Inputs). one_if (is_some call)) is in
          let waiting : one_if (has clock.waiting flow) ≡ 0 = ap one_if waits in
          let runs_one : runs_of clock.running flow ≡ 1 = omega (arith, counts, one, waiting) in
          inr (inl (begun-call meaning core kept flow inputs is, of-now flow ∙ runs_one))

      by : (call : Option Inputs) → begun_by core flow ≡ call
          → IsSettled setup clock.processors core.entries runs t flow
      by None is =
          let begins = rests.begins in
          let zero_ : one_if (is_some (begun_by core flow)) ≡ 0 = ap (λ (call : Option Inputs). one_if (is_some call)) is in
          let none : runs_of clock.running flow ≡ 0 = omega (arith, counts, zero_) in
          inl (begins.none flow live is, of-now flow ∙ none)
      by (Some inputs) is = called inputs is (has clock.waiting flow) refl

  all-done : until t (timed clock.at core.entries) ≡ core.entries
  all-done =
      let begins = rests.begins in let ticks = begins.ticks in let journal = ticks.journal in
      until-all t clock.at core.entries journal.each
      (all-map (λ at. at ≤ clock.tick) (λ at. at ≤ t) (λ at le. omega (arith, le, now)) clock.at journal.past)

  pub settled-now : (flow : ℕ) → IsLive setup (until t (timed clock.at core.entries)) flow
      → IsSettled setup clock.processors (until t (timed clock.at core.entries)) runs t flow
  settled-now flow live =
      subst (λ (es : List Entry). IsSettled setup clock.processors es runs t flow) (sym all-done)
      (stands flow (subst (λ (es : List Entry). IsLive setup es flow) all-done live))
