-- When no call runs any more, all flows have ended, and what was noted is by the rule.
use Rattle.std.proofs.Common.{◌≡◌, ◌<◌, ◌≤◌, ◌-◌, ◌⊎◌, inl, inr, ℕ, zero, suc, List, [], ◌∷◌, ◌++◌, length, refl, sym, ap, subst, ◌∙◌, arith}
use Rattle.std.specs.List.{AllByRecursion, slice_get, sum_by}
use Rattle.std.specs.Option.{unwrap_or}
use Rattle.std.proofs.lemmas.Bool.{cases_lt}
use Rattle.std.proofs.lemmas.List.{append-nil}
use Rattle.flux_values.specs.Meanings.{LibraryMeaning}
use Rattle.flow_model.specs.Setup.{Setup}
use Rattle.flow_model.specs.Events.{IsLive}
use Rattle.flow_model.specs.Legal.{IsWhole}
use Rattle.flux_laws.specs.Going.{IsBlocked}
use Rattle.flux_laws.proofs.Ends.{none_live_is_whole}
use Rattle.flux_laws.proofs.Living.{not_all_blocked}
use Rattle.flow_core.specs.States.{CoreState, setup_in, IsKept}
use Rattle.flow_orders.specs.declared.runs.Run.{Run}
use Rattle.flux_simulate.specs.declared.clock.Clock.{Clock}
use Rattle.flow_orders.specs.Ticks.{Timed, timed, until, last_tick}
use Rattle.flow_orders.specs.Runs.{running_at, running_of, NeverMoreRuns, IsOneRunACall, sum_of_costs}
use Rattle.flow_orders.specs.Rule.{IsSettled, AreSettled, IsByTheRule}
use Rattle.flow_orders.specs.Idle.{NeverIdleForNothing}
use Rattle.flux_simulate.specs.steps.Ticking.{AllLast, runs_of, Ticks, Rests}
use Rattle.flux_simulate.proofs.Settling.{at-now, of-now, stands, few-now, settled-now}
use Rattle.flux_simulate.proofs.Bounds.{took-cost}

last-most : (most : ℕ) (at : List ℕ) → AllByRecursion (λ a. a ≤ most) at → last_tick at ≤ most
last-most most at past = by at (length at - 1) past
  where
    by : (list : List ℕ) (place : ℕ) → AllByRecursion (λ a. a ≤ most) list → unwrap_or (slice_get list place) 0 ≤ most
    by [] place all = omega arith
    by (a ∷ list) zero all = all.0
    by (a ∷ list) (suc place) all = by list place all.1

module _ {L : Type 0} (meaning : L → LibraryMeaning) (core : CoreState L) (clock : Clock) (kept : IsKept meaning core)
    (rests : Rests meaning core clock) (over : clock.running ≡ []) (some : 1 ≤ clock.processors) (costs : List ℕ)
    (last : AllLast costs clock) where
  abbrev setup : Setup
  setup = setup_in meaning core

  abbrev journal : Timed
  journal = timed clock.at core.entries

  ticks : Ticks meaning core clock
  ticks = let begins = rests.begins in begins.ticks

  -- no run stops any more
  on : (t : ℕ) → AllByRecursion (λ run. t < run.stop) clock.running
  on t = subst (AllByRecursion (λ run. t < run.stop)) (sym over) tt

  all-ended : clock.ended ++ clock.running ≡ clock.ended
  all-ended = ap (λ (rs : List Run). clock.ended ++ rs) over ∙ append-nil clock.ended

  few : NeverMoreRuns clock.processors clock.ended
  few t = subst (λ (rs : List Run). running_at rs t ≤ clock.processors) all-ended (by (cases_lt t clock.tick))
    where
      by : (t < clock.tick) ⊎ (clock.tick ≤ t) → running_at (clock.ended ++ clock.running) t ≤ clock.processors
      by (inl before) = let past = ticks.past in past.few t before
      by (inr now) = few-now meaning core clock kept rests t now (on t)

  settled : AreSettled setup clock.processors journal clock.ended
  settled t flow live =
      subst (λ (rs : List Run). IsSettled setup clock.processors (until t journal) rs t flow) all-ended
      (by (cases_lt t clock.tick))
    where
      by : (t < clock.tick) ⊎ (clock.tick ≤ t)
          → IsSettled setup clock.processors (until t journal) (clock.ended ++ clock.running) t flow
      by (inl before) = let past = ticks.past in past.settled t flow before live
      by (inr now) = settled-now meaning core clock kept rests t now (on t) flow live

  -- whoever is live is blocked, as no call runs; so none is live
  blocked : (flow : ℕ) → IsLive setup core.entries flow → IsBlocked setup core.entries flow
  blocked flow live = by (stands meaning core clock kept rests clock.tick (omega arith) (on clock.tick) flow live)
    where
      none : length clock.running ≡ 0
      none = ap length over

      runs-none : runs_of clock.running flow ≡ 0
      runs-none = ap (λ (rs : List Run). runs_of rs flow) over

      by : IsSettled setup clock.processors core.entries (clock.ended ++ clock.running) clock.tick flow
          → IsBlocked setup core.entries flow
      by (inl is) = is.0
      by (inr (inl (call, one))) =
          let count = of-now meaning core clock kept rests clock.tick (omega arith) (on clock.tick) flow in
          let zero_runs = runs-none in
          absurd (omega (arith, one, count, zero_runs))
      by (inr (inr (call, none_run, passed))) =
          let taken = passed.taken in
          let count = at-now meaning core clock kept rests clock.tick (omega arith) (on clock.tick) in
          let zero_runs = none in
          absurd (omega (arith, taken, count, zero_runs, some))

  pub whole : IsWhole setup core.entries
  whole = none_live_is_whole setup core.entries kept.legal
      (not_all_blocked setup core.entries kept.legal blocked)

  pub one-run : IsOneRunACall costs journal clock.ended
  one-run = let runs = ticks.runs in record { calls = runs.ends; last = last.ended }

  pub by-the-rule : IsByTheRule setup costs clock.processors core.entries clock.at clock.ended (last_tick clock.at)
  by-the-rule = let own = ticks.journal in record {
    each = own.each;
    rising = own.rising;
    turns = own.turns;
    runs_ = one-run;
    few = few;
    settled = settled;
    last = refl;
    no_wait = own.no_wait;
  }

  pub never-more : NeverMoreRuns clock.processors clock.ended
  never-more = few

  pub never-idle : NeverIdleForNothing setup clock.processors journal clock.ended (last_tick clock.at)
  never-idle t before free flow live = by (settled t flow live)
    where
      by : IsSettled setup clock.processors (until t journal) clock.ended t flow
          → (0 < running_of clock.ended flow t) ⊎ IsBlocked setup (until t journal) flow
      by (inl is) = inr is.0
      by (inr (inl (call, one))) = inl (omega (arith, one))
      by (inr (inr (call, none_run, passed))) = let taken = passed.taken in absurd (omega (arith, taken, free))

  pub bounded : last_tick clock.at ≤ sum_of_costs costs clock.ended
  bounded =
      let own = ticks.journal in
      let runs = ticks.runs in
      let most = last-most clock.tick clock.at own.past in
      let busy = runs.busy in
      let none = ap (sum_by (λ (run : Run). clock.tick - run.start)) over in
      let took = took-cost costs clock.ended last.ended in
      omega (arith, most, busy, none, took)
