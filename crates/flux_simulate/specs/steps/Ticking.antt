-- What a simulation keeps from entry to entry and from tick to tick. No promise cites it.
use Rattle.std.specs.Prelude.{◌≡◌, ℕ, ◌+◌, ◌-◌, ◌<◌, ◌≤◌, ◌==◌, Bool, true, false, if◌then◌else◌, List, [], ◌++◌, map, length, Option, Some, None}
use Rattle.std.specs.List.{count_by, sum_by, AllByRecursion}
use Rattle.std.specs.List.Sorted.{IsNonDecreasing}
use Rattle.std.specs.Option.{is_some}
use Rattle.flux_values.specs.Meanings.{LibraryMeaning}
use Rattle.flux_model.specs.declared.programs.NodeNo.{NodeNo}
use Rattle.flow_model.specs.declared.journals.CallMade.{CallMade}
use Rattle.flow_model.specs.declared.journals.Entry.{Entry}
use Rattle.flow_model.specs.declared.journals.Event.TheVariants.{Call}
use Rattle.flow_model.specs.Setup.{Setup}
use Rattle.flow_model.specs.Events.{IsLive}
use Rattle.flux_laws.specs.Going.{IsBlocked}
use Rattle.flux_laws.specs.Growth.{IsNoWait}
use Rattle.flow_state.specs.declared.inputs.Inputs.{Inputs}
use Rattle.flow_core.specs.States.{CoreState, setup_in, begun_by}
use Rattle.flow_core.specs.Runs.{GoesOn}
use Rattle.flow_waits.specs.steps.Aside.{Parted, AreAside}
use Rattle.flow_waits.specs.steps.Waking.{has}
use Rattle.flow_orders.specs.declared.runs.Run.{Run}
use Rattle.flux_simulate.specs.declared.clock.Clock.{Clock}
use Rattle.flow_orders.specs.Costs.{cost_of}
use Rattle.flow_orders.specs.Ticks.{Timed, timed, until, at_tick}
use Rattle.flow_orders.specs.Runs.{running_at, starting_from, end_of, ends_in}
use Rattle.flow_orders.specs.Rule.{ComeInTurn, IsSettled}

-- ---- the journal so far

pub record IsTimed (setup : Setup) (entries : List Entry) (at : List ℕ) (tick : ℕ) : Type 0 where
  pub each : length at ≡ length entries
  pub rising : IsNonDecreasing at
  pub past : AllByRecursion (λ t. t ≤ tick) at
  pub turns : ComeInTurn setup (timed at entries)
  pub no_wait : AllByRecursion IsNoWait entries

-- ---- the runs so far

-- a run that has ended by a tick, and one that goes on at it
pub record IsOver (tick : ℕ) (run : Run) : Type 0 where
  pub took : run.start < run.stop
  pub over : run.stop ≤ tick

pub record IsOn (tick : ℕ) (run : Run) : Type 0 where
  pub begun : run.start ≤ tick
  pub on : tick ≤ run.stop

-- all work that is done by a tick: that of ended runs, and so much of those that go on
abbrev pub work_done : List Run → List Run → ℕ → ℕ
work_done ended running tick =
    sum_by (λ run. run.stop - run.start) ended + sum_by (λ run. tick - run.start) running

pub record AreRuns (journal : Timed) (ended running : List Run) (tick : ℕ) : Type 0 where
  pub ends : map end_of ended ≡ ends_in journal
  pub over : AllByRecursion (IsOver tick) ended
  pub on : AllByRecursion (IsOn tick) running
  pub busy : tick ≤ work_done ended running tick

-- a run lasts as long as its node costs
abbrev pub Lasts : List ℕ → Run → Type 0
Lasts costs run = run.stop ≡ run.start + cost_of costs run.node

-- so does each
pub record AllLast (costs : List ℕ) (clock : Clock) : Type 0 where
  pub ended : AllByRecursion (Lasts costs) clock.ended
  pub running : AllByRecursion (Lasts costs) clock.running

-- ---- the ticks so far

pub record ArePast (setup : Setup) (processors : ℕ) (journal : Timed) (runs : List Run) (tick : ℕ) : Type 0 where
  pub few : (t : ℕ) → t < tick → running_at runs t ≤ processors
  pub settled : (t flow : ℕ) → t < tick → IsLive setup (until t journal) flow
      → IsSettled setup processors (until t journal) runs t flow

-- ---- calls that are begun

abbrev pub one_if : Bool → ℕ
one_if is = if is then 1 else 0

-- how many runs are of a flow
abbrev pub runs_of : List Run → ℕ → ℕ
runs_of runs flow = count_by (λ run. run.flow.0 == flow) runs

abbrev pub IsOfNode : NodeNo → Option Inputs → Type 0
IsOfNode node None = ⊥
IsOfNode node (Some inputs) = inputs.node ≡ node

-- a flow's call that is begun either runs or waits
pub record RunOrWait {L : Type 0} (core : CoreState L) (running : List Run) (waiting : List ℕ) : Type 0 where
  pub each : (flow : ℕ) → runs_of running flow + one_if (has waiting flow) ≡ one_if (is_some (begun_by core flow))
  pub nodes : AllByRecursion (λ run. IsOfNode run.node (begun_by core (let own = run.flow in own.0))) running

-- ---- who can go on

-- a live flow whose call isn't begun is blocked
abbrev pub StandsStill : {L : Type 0} → (L → LibraryMeaning) → CoreState L → ℕ → Type 0
StandsStill meaning core flow = IsLive (setup_in meaning core) core.entries flow → begun_by core flow ≡ None
    → IsBlocked (setup_in meaning core) core.entries flow

-- so are all
abbrev pub AllStandStill : {L : Type 0} → (L → LibraryMeaning) → CoreState L → Type 0
AllStandStill meaning core = (flow : ℕ) → StandsStill meaning core flow

-- the flows that are looked at, and those that are set aside, are enough to find the lowest that can go on
abbrev pub Watches : {L : Type 0} → (L → LibraryMeaning) → CoreState L → Parted → Type 0
Watches meaning core parted = AreAside meaning core parted.pools parted.aside 0

-- ---- all of it

pub record Ticks {L : Type 0} (meaning : L → LibraryMeaning) (core : CoreState L) (clock : Clock) : Type 0 where
  pub journal : IsTimed (setup_in meaning core) core.entries clock.at clock.tick
  pub runs : AreRuns (timed clock.at core.entries) clock.ended clock.running clock.tick
  pub past : ArePast (setup_in meaning core) clock.processors (timed clock.at core.entries)
      (clock.ended ++ clock.running) clock.tick
  pub calls : RunOrWait core clock.running clock.waiting
  pub room : length clock.running ≤ clock.processors

-- all calls that run began before this tick
abbrev pub BeganBefore : Clock → Type 0
BeganBefore clock = AllByRecursion (λ run. run.start < clock.tick) clock.running

-- and none of them stops at it
abbrev pub GoBeyond : Clock → Type 0
GoBeyond clock = AllByRecursion (λ run. clock.tick < run.stop) clock.running

-- an entry is a call, of a flow below those of all runs that stop at a tick
pub record IsCallUnder (running : List Run) (tick : ℕ) (entry : Entry) : Type 0 where
  pub made : CallMade
  pub is : entry.event ≡ Call made
  pub under : AllByRecursion (λ run. run.stop ≡ tick
      → (let low = entry.flow in let high = run.flow in low.0 < high.0)) running

-- while calls are finished: at this tick there was nothing but calls of lower flows
pub record Finishes {L : Type 0} (meaning : L → LibraryMeaning) (core : CoreState L) (clock : Clock) : Type 0 where
  pub ticks : Ticks meaning core clock
  pub before : BeganBefore clock
  pub calls : AllByRecursion (IsCallUnder clock.running clock.tick) (at_tick clock.tick (timed clock.at core.entries))

-- while flows go on without calls
pub record Goes {L : Type 0} (meaning : L → LibraryMeaning) (core : CoreState L) (clock : Clock) : Type 0 where
  pub ticks : Ticks meaning core clock
  pub before : BeganBefore clock
  pub beyond : GoBeyond clock

-- while calls begin: those that have begun at this tick are of lower flows than those that wait
pub record Begins {L : Type 0} (meaning : L → LibraryMeaning) (core : CoreState L) (clock : Clock) : Type 0 where
  pub ticks : Ticks meaning core clock
  pub beyond : GoBeyond clock
  pub none : AllStandStill meaning core
  pub lower : (flow : ℕ) → has clock.waiting flow ≡ true → starting_from clock.running flow clock.tick ≡ 0

-- when all of a tick is done: calls wait only where all processors are taken
pub record Rests {L : Type 0} (meaning : L → LibraryMeaning) (core : CoreState L) (clock : Clock) : Type 0 where
  pub begins : Begins meaning core clock
  pub taken : (flow : ℕ) → has clock.waiting flow ≡ true → clock.processors ≤ length clock.running

-- at the next stop calls are finished; where none runs, there is no such stop
abbrev pub IsFurtherTick : {L : Type 0} → (L → LibraryMeaning) → CoreState L → CoreState L → Clock → Bool → Type 0
IsFurtherTick meaning old new clock true =
    Goes meaning new clock × (length old.entries < length new.entries)
IsFurtherTick meaning old new clock false = Rests meaning new clock × (clock.running ≡ [])

-- the next tick is done, and something with it; or no call runs any more
pub record IsNextTick {L : Type 0} (meaning : L → LibraryMeaning) (old new : CoreState L) (clock : Clock) (more : Bool)
    : Type 0 where
  pub rests : Rests meaning new clock
  pub longer : more ≡ true → length old.entries < length new.entries
  pub over : more ≡ false → clock.running ≡ []

-- ---- the core

-- a core goes on, and its flag is as it was
pub record GoesFurther {L : Type 0} (old new : CoreState L) : Type 0 where
  pub on : GoesOn old new
  pub halted_ : new.halted ≡ old.halted
