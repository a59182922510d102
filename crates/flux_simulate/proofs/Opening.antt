-- What is kept before anything is done, and when no flow can go on.
use Rattle.std.proofs.Common.{◌≡◌, ◌<◌, ℕ, false, eqb, leb, ◌&&◌, List, [], length, Option, None, refl, sym, ap, subst, arith}
use Rattle.std.specs.List.{AllByRecursion}
use Rattle.std.specs.Option.{is_some}
use Rattle.std.proofs.lemmas.Bool.{ne_eqb, and_left}
use Rattle.std.proofs.lemmas.List.Sorted.{IsNonDecreasingBy-short}
use Rattle.flux_values.specs.Meanings.{LibraryMeaning}
use Rattle.flux_laws.specs.Growth.{IsNoWait}
use Rattle.flow_state.specs.declared.inputs.Inputs.{Inputs}
use Rattle.flow_core.specs.States.{CoreState, setup_in, begun_by}
use Rattle.flow_orders.specs.declared.runs.Run.{Run}
use Rattle.flux_simulate.specs.declared.clock.Clock.{Clock}
use Rattle.flux_simulate.specs.steps.Ticking.{one_if, Lasts, AllLast, AllStandStill, Goes, Begins}
use Rattle.flux_simulate.proofs.Journals.{turns-none}
use Rattle.flux_simulate.proofs.Tallies.{all-map, count-none}

-- calls begin when no flow can go on
pub all-begin : {L : Type 0} (meaning : L → LibraryMeaning) (core : CoreState L) (clock : Clock)
    → Goes meaning core clock → AllStandStill meaning core → Begins meaning core clock
all-begin meaning core clock goes none = record {
  ticks = goes.ticks;
  beyond = goes.beyond;
  none = none;
  lower = λ flow waits. count-none (λ (run : Run). eqb run.start clock.tick && leb flow run.flow.0) clock.running
      (all-map (λ run. run.start < clock.tick) (λ run. (eqb run.start clock.tick && leb flow run.flow.0) ≡ false)
      (λ run early. and_left (eqb run.start clock.tick) (leb flow run.flow.0)
      (ne_eqb run.start clock.tick (λ same. omega (arith, same, early)))) clock.running goes.before);
}

-- runs that stay last as long as they did
pub last-stays : (costs : List ℕ) (old new : Clock) → new.ended ≡ old.ended → new.running ≡ old.running
    → AllLast costs old → AllLast costs new
last-stays costs old new ended running last = record {
  ended = subst (AllByRecursion (Lasts costs)) (sym ended) last.ended;
  running = subst (AllByRecursion (Lasts costs)) (sym running) last.running;
}

abbrev pub at_first : ℕ → Clock
at_first processors = record {
  tick = 0;
  at = [];
  ended = [];
  processors = processors;
  running = [];
  waiting = [];
}

pub opening-goes : {L : Type 0} (meaning : L → LibraryMeaning) (core : CoreState L) (processors : ℕ)
    → core.entries ≡ [] → ((flow : ℕ) → begun_by core flow ≡ None) → Goes meaning core (at_first processors)
opening-goes meaning core processors none idle = record {
  ticks = record {
    journal = record {
      each = sym (ap length none);
      rising = IsNonDecreasingBy-short (λ (x : ℕ). x) [] (omega arith);
      past = tt;
      turns = turns-none (setup_in meaning core);
      no_wait = subst (AllByRecursion IsNoWait) (sym none) tt;
    };
    runs = record { ends = refl; over = tt; on = tt; busy = omega arith };
    past = record {
      few = λ t lt. absurd (omega (arith, lt));
      settled = λ t flow lt live. absurd (omega (arith, lt));
    };
    calls = record {
      each = λ flow. sym (ap (λ (call : Option Inputs). one_if (is_some call)) (idle flow));
      nodes = tt;
    };
    room = omega arith;
  };
  before = tt;
  beyond = tt;
}

pub opening-last : (costs : List ℕ) (processors : ℕ) → AllLast costs (at_first processors)
opening-last costs processors = record { ended = tt; running = tt }
