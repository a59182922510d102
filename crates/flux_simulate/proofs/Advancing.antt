-- Time passes to the tick at which a run stops first.
use Rattle.std.proofs.Common.{◌≡◌, ◌<◌, ◌≤◌, ◌+◌, ◌-◌, ◌⊎◌, inl, inr, ℕ, List, ◌∷◌, ◌++◌, sym, ap, subst, arith}
use Rattle.std.specs.List.{AllByRecursion, sum_by}
use Rattle.std.proofs.lemmas.Bool.{cases_lt}
use Rattle.std.proofs.lemmas.List.Sums.{sum_by-le-sum_by}
use Rattle.flux_values.specs.Meanings.{LibraryMeaning}
use Rattle.flow_model.specs.Setup.{Setup}
use Rattle.flow_model.specs.Events.{IsLive}
use Rattle.flow_core.specs.States.{CoreState, setup_in, IsKept}
use Rattle.flow_orders.specs.declared.runs.Run.{Run}
use Rattle.flux_simulate.specs.declared.clock.Clock.{Clock}
use Rattle.flow_orders.specs.Ticks.{Timed, timed, until}
use Rattle.flow_orders.specs.Runs.{running_at}
use Rattle.flow_orders.specs.Rule.{IsSettled}
use Rattle.flux_simulate.specs.steps.Changes.{StopsNoLater}
use Rattle.flux_simulate.specs.steps.Ticking.{IsOver, IsOn, AllLast, Ticks, IsCallUnder, Finishes, Rests}
use Rattle.flux_simulate.proofs.Journals.{at_tick-none}
use Rattle.flux_simulate.proofs.Tallies.{all-map, all-both, all-taken, sum-taken}
use Rattle.flux_simulate.proofs.Settling.{few-now, settled-now}

module _ {L : Type 0} (meaning : L → LibraryMeaning) (core : CoreState L) (clock : Clock) (run : Run)
    (front back : List Run) (kept : IsKept meaning core) (rests : Rests meaning core clock)
    (was : clock.running ≡ front ++ run ∷ back) (first : AllByRecursion (StopsNoLater run) clock.running) where
  abbrev pub at_stop : Clock
  at_stop = record {
    tick = run.stop;
    at = clock.at;
    ended = clock.ended;
    processors = clock.processors;
    running = clock.running;
    waiting = clock.waiting;
  }

  abbrev setup : Setup
  setup = setup_in meaning core

  abbrev journal : Timed
  journal = timed clock.at core.entries

  ticks : Ticks meaning core clock
  ticks = let begins = rests.begins in begins.ticks

  own : (P : Run → Type 0) → AllByRecursion P clock.running → P run
  own P all = all-taken P front run back (subst (AllByRecursion P) was all)

  later : clock.tick < run.stop
  later = let begins = rests.begins in own (λ r. clock.tick < r.stop) begins.beyond

  on-until : (t : ℕ) → t < run.stop → AllByRecursion (λ r. t < r.stop) clock.running
  on-until t lt = all-map (StopsNoLater run) (λ r. t < r.stop)
      (λ r no_later. let le = no_later.stop in omega (arith, le, lt)) clock.running first

  busy-now : run.stop
      ≤ sum_by (λ (r : Run). r.stop - r.start) clock.ended + sum_by (λ (r : Run). run.stop - r.start) clock.running
  busy-now =
      let runs = ticks.runs in
      let busy = runs.busy in
      let begun = let is = own (IsOn clock.tick) runs.on in is.begun in
      let was_whole = ap (sum_by (λ (r : Run). clock.tick - r.start)) was in
      let was_taken = sum-taken (λ (r : Run). clock.tick - r.start) front run back in
      let now_whole = ap (sum_by (λ (r : Run). run.stop - r.start)) was in
      let now_taken = sum-taken (λ (r : Run). run.stop - r.start) front run back in
      let more = sum_by-le-sum_by (λ (r : Run). clock.tick - r.start) (λ (r : Run). run.stop - r.start) (front ++ back)
      (λ r. let late = later in omega (arith, late)) in
      let late = later in
      omega (arith, busy, begun, was_whole, was_taken, now_whole, now_taken, more, late)

  few : (t : ℕ) → t < run.stop → running_at (clock.ended ++ clock.running) t ≤ clock.processors
  few t lt = by (cases_lt t clock.tick)
    where
      by : (t < clock.tick) ⊎ (clock.tick ≤ t) → running_at (clock.ended ++ clock.running) t ≤ clock.processors
      by (inl before) = let past = ticks.past in past.few t before
      by (inr now) = few-now meaning core clock kept rests t now (on-until t lt)

  settled : (t flow : ℕ) → t < run.stop → IsLive setup (until t journal) flow
      → IsSettled setup clock.processors (until t journal) (clock.ended ++ clock.running) t flow
  settled t flow lt live = by (cases_lt t clock.tick)
    where
      by : (t < clock.tick) ⊎ (clock.tick ≤ t)
          → IsSettled setup clock.processors (until t journal) (clock.ended ++ clock.running) t flow
      by (inl before) = let past = ticks.past in past.settled t flow before live
      by (inr now) = settled-now meaning core clock kept rests t now (on-until t lt) flow live

  pub advanced : Finishes meaning core at_stop
  advanced = let late = later in record {
    ticks = record {
      journal = let own_journal = ticks.journal in record {
        each = own_journal.each;
        rising = own_journal.rising;
        past = all-map (λ a. a ≤ clock.tick) (λ a. a ≤ run.stop) (λ a le. omega (arith, le, late)) clock.at
            own_journal.past;
        turns = own_journal.turns;
        no_wait = own_journal.no_wait;
      };
      runs = let runs = ticks.runs in record {
        ends = runs.ends;
        over = all-map (IsOver clock.tick) (IsOver run.stop)
            (λ r is. record { took = is.took; over = let o = is.over in omega (arith, o, late) }) clock.ended runs.over;
        on = all-both (IsOn clock.tick) (StopsNoLater run) (IsOn run.stop)
            (λ r is no_later. record { begun = let b = is.begun in omega (arith, b, late); on = no_later.stop })
            clock.running runs.on first;
        busy = busy-now;
      };
      past = record { few = few; settled = settled };
      calls = ticks.calls;
      room = ticks.room;
    };
    before = let runs = ticks.runs in all-map (IsOn clock.tick) (λ r. r.start < run.stop)
        (λ r is. let b = is.begun in omega (arith, b, late)) clock.running runs.on;
    calls = let own_journal = ticks.journal in
        subst (AllByRecursion (IsCallUnder clock.running run.stop))
        (sym (at_tick-none run.stop clock.at core.entries
        (all-map (λ a. a ≤ clock.tick) (λ a. a < run.stop) (λ a le. omega (arith, le, late)) clock.at
        own_journal.past))) tt;
  }

  pub advanced-last : (costs : List ℕ) → AllLast costs clock → AllLast costs at_stop
  advanced-last costs last = record { ended = last.ended; running = last.running }
