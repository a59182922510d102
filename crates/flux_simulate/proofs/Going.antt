-- The lowest flow that can go on makes its next event, or begins its call, which then waits.
use Rattle.std.proofs.Common.{◌≡◌, ◌<◌, ◌≤◌, ◌+◌, ◌⊎◌, inl, inr, ℕ, zero, suc, Bool, ◌||◌, List, [], ◌∷◌, ◌++◌, length, Option, Some, None, length-append, refl, sym, ap, subst, ◌∙◌, arith}
use Rattle.std.specs.List.{AllByRecursion, sum_by, slice_get, slice_set}
use Rattle.std.specs.Option.{is_some, option_flatten}
use Rattle.std.proofs.lemmas.Bool.{cases_eq, cases_lt, eq-eqb, ne_eqb}
use Rattle.std.proofs.lemmas.List.{append-nil}
use Rattle.std.proofs.lemmas.List.Sums.{sum_by-cons}
use Rattle.flux_values.specs.Meanings.{LibraryMeaning}
use Rattle.flux_model.specs.declared.items.FlowNo.{FlowNo}
use Rattle.flow_model.specs.declared.journals.Entry.{Entry}
use Rattle.flow_model.specs.declared.journals.Event.{Event}
use Rattle.flow_model.specs.Setup.{Setup}
use Rattle.flow_model.specs.Events.{IsNext}
use Rattle.flux_laws.specs.Growth.{IsNoWait}
use Rattle.flux_laws.proofs.Members.{get-within}
use Rattle.flow_state.specs.declared.inputs.Inputs.{Inputs}
use Rattle.flow_state.proofs.Sets.{get-replaced, get-replaced_other}
use Rattle.flow_state.proofs.Tables.{not-both}
use Rattle.flow_core.specs.States.{CoreState, setup_in, begun_by, IsKept}
use Rattle.flow_core.specs.Moves.{with_entry, with_begun, MakesEvent, BeginsCall}
use Rattle.flow_waits.specs.Idle.{IsFirstIdle}
use Rattle.flow_waits.specs.Turns.{IsPassing}
use Rattle.flow_waits.specs.steps.Waking.{has, IsMore}
use Rattle.flow_waits.proofs.Orders.{before-from_zero}
use Rattle.flow_waits.proofs.Turning.{passing}
use Rattle.flux_simulate.specs.declared.clock.Clock.{Clock}
use Rattle.flow_orders.specs.Ticks.{Timed, timed, until}
use Rattle.flow_orders.specs.Runs.{CallEnd, ends_in}
use Rattle.flow_orders.specs.Rule.{GoesAlone, IsLowestAlone}
use Rattle.flux_simulate.specs.steps.Calls.{HasStarted}
use Rattle.flux_simulate.specs.steps.Ticking.{AreRuns, ArePast, one_if, runs_of, IsOfNode, RunOrWait, Ticks, Goes}
use Rattle.flux_simulate.proofs.Journals.{timed-more, entries-of, until-later, ends-more, no-ends}
use Rattle.flux_simulate.proofs.Tallies.{count_one, all-both, runs-apart}
use Rattle.flux_simulate.proofs.Pasts.{alike-same, past-alike}
use Rattle.flux_simulate.proofs.Timing.{timed-on}
use Rattle.flux_simulate.proofs.Settling.{begun-call}

-- ---- one call more is begun

count-set : {X : Type 0} (f : X → ℕ) (xs : List X) (k : ℕ) (x y : X) → slice_get xs k ≡ Some y
    → sum_by f (slice_set xs k x) + f y ≡ sum_by f xs + f x
count-set f [] k x y is = absurd cc
count-set f (z ∷ xs) zero x y is =
    let same : z ≡ y = cc in
    let e = ap f same in
    let a = sum_by-cons f x xs in
    let b = sum_by-cons f z xs in
    omega (arith, a, b, e)
count-set f (z ∷ xs) (suc k) x y is =
    let more = count-set f xs k x y is in
    let a = sum_by-cons f z (slice_set xs k x) in
    let b = sum_by-cons f z xs in
    omega (arith, more, a, b)

begun-none : {L : Type 0} (core : CoreState L) (flow : ℕ) → flow < length core.begun → begun_by core flow ≡ None
    → slice_get core.begun flow ≡ Some None
begun-none core flow within none =
    let (call, is) = get-within core.begun flow within in
    is ∙ ap (λ (c : Option Inputs). Some c) (sym (ap option_flatten is) ∙ none)

module _ {L : Type 0} (meaning : L → LibraryMeaning) (core new : CoreState L) (clock : Clock) (flow : FlowNo)
    (kept : IsKept meaning core) (goes : Goes meaning core clock) (first : IsFirstIdle meaning core 0 flow) where
  abbrev setup : Setup
  setup = setup_in meaning core

  abbrev journal : Timed
  journal = timed clock.at core.entries

  ticks : Ticks meaning core clock
  ticks = goes.ticks

  within : flow.0 < length core.begun
  within = let is = first.is in let can = is.can in let live = can.live in let item = live.item in
      let each = kept.each in omega (arith, item, each)

  -- ---- an event

  lowest : (event : Event) → IsNext setup core.entries flow.0 event → IsLowestAlone setup core.entries flow.0
  lowest event next = record {
    goes = record {
      can = let is = first.is in is.can;
      no_call = λ at. not-both setup core.entries flow.0 event at.0 at.1 next at.2;
    };
    least = λ other alone. by other alone (cases_lt other flow.0) (begun_by core other) refl;
  }
    where
      by : (other : ℕ) → GoesAlone setup core.entries other → (other < flow.0) ⊎ (flow.0 ≤ other)
          → (call : Option Inputs) → begun_by core other ≡ call → flow.0 ≤ other
      by other alone (inr le) call is = le
      by other alone (inl lt) (Some inputs) is =
          absurd (alone.no_call (begun-call meaning core kept other inputs is))
      by other alone (inl lt) None is =
          absurd (first.first other (record { can = alone.can; idle = is }) (before-from_zero other flow.0 lt))

  module _ (event : Event) (makes : MakesEvent meaning core new flow event) where
    abbrev pub after-event : Clock
    after-event = record {
      tick = clock.tick;
      at = clock.at ++ clock.tick ∷ [];
      ended = clock.ended;
      processors = clock.processors;
      running = clock.running;
      waiting = clock.waiting;
    }

    abbrev entry : Entry
    entry = record { flow = flow; event = event }

    passes : IsPassing event
    passes = let legal = kept.legal in let both = passing setup legal.locks core.entries flow event makes.may in both.0

    no-wait : IsNoWait entry
    no-wait key mode is = subst IsPassing is passes

    grown : timed (clock.at ++ clock.tick ∷ []) (core.entries ++ entry ∷ []) ≡ journal ++ (clock.tick, entry) ∷ []
    grown = let own = ticks.journal in timed-more clock.at core.entries clock.tick entry own.each

    runs-now : AreRuns (timed (clock.at ++ clock.tick ∷ []) (core.entries ++ entry ∷ [])) clock.ended clock.running clock.tick
    runs-now = let own = ticks.runs in record {
      ends = own.ends
          ∙ sym (append-nil (ends_in journal))
          ∙ ap (λ (es : List CallEnd). ends_in journal ++ es) (sym (no-ends clock.tick flow event passes))
          ∙ sym (ends-more journal clock.tick flow event) ∙ ap ends_in (sym grown);
      over = own.over;
      on = own.on;
      busy = own.busy;
    }

    past-now : ArePast setup clock.processors (timed (clock.at ++ clock.tick ∷ []) (core.entries ++ entry ∷ []))
        (clock.ended ++ clock.running) clock.tick
    past-now = past-alike setup clock.processors journal
        (timed (clock.at ++ clock.tick ∷ []) (core.entries ++ entry ∷ [])) (clock.ended ++ clock.running)
        (clock.ended ++ clock.running) clock.tick
        (λ t lt. ap (until t) grown ∙ until-later t clock.tick journal entry lt)
        (λ t lt. alike-same (clock.ended ++ clock.running) t) ticks.past

    went : Goes meaning (with_entry core flow event) after-event
    went = record {
      ticks = record {
        journal = timed-on setup core.entries clock.at clock.tick flow event ticks.journal
            (inr (subst (λ (es : List Entry). IsLowestAlone setup es flow.0)
            (sym (entries-of clock.at core.entries (let own = ticks.journal in own.each)))
            (let may = makes.may in lowest event may.next))) no-wait;
        runs = runs-now;
        past = past-now;
        calls = record { each = let calls = ticks.calls in calls.each; nodes = let calls = ticks.calls in calls.nodes };
        room = ticks.room;
      };
      before = goes.before;
      beyond = goes.beyond;
    }

    pub event-goes : Goes meaning new after-event
    event-goes = subst (λ (c : CoreState L). Goes meaning c after-event) (sym makes.new_) went

    pub event-started : HasStarted core new
    event-started = subst (λ (c : CoreState L). HasStarted core c) (sym makes.new_)
        (let longer = length-append core.entries (entry ∷ []) in omega (arith, longer))

  -- ---- a call that is begun

  module _ (inputs : Inputs) (begins : BeginsCall meaning core new flow inputs) (waiting : List ℕ)
      (more : IsMore clock.waiting waiting flow.0) where
    abbrev pub after-begin : Clock
    after-begin = record {
      tick = clock.tick;
      at = clock.at;
      ended = clock.ended;
      processors = clock.processors;
      running = clock.running;
      waiting = waiting;
    }

    abbrev begun-now : ℕ → Option Inputs
    begun-now other = option_flatten (slice_get (slice_set core.begun flow.0 (Some inputs)) other)

    own-now : begun-now flow.0 ≡ Some inputs
    own-now = ap option_flatten
        (get-replaced core.begun flow.0 (Some inputs) None (begun-none core flow.0 within begins.idle))

    other-now : (other : ℕ) → (flow.0 ≡ other → ⊥) → begun-now other ≡ begun_by core other
    other-now other apart = ap option_flatten (get-replaced_other core.begun flow.0 other (Some inputs) apart)

    -- the flow had neither a run nor a place
    nothing : (runs_of clock.running flow.0 ≡ 0) × (one_if (has clock.waiting flow.0) ≡ 0)
    nothing =
        let calls = ticks.calls in
        let each = calls.each flow.0 in
        let none : one_if (is_some (begun_by core flow.0)) ≡ 0 = ap (λ (c : Option Inputs). one_if (is_some c)) begins.idle in
        (omega (arith, each, none), omega (arith, each, none))

    calls-now : RunOrWait (with_begun core flow (Some inputs)) clock.running waiting
    calls-now = record { each = λ other. by other (cases_eq flow.0 other); nodes = nodes-now }
      where
        by : (other : ℕ) → (flow.0 ≡ other) ⊎ (flow.0 ≡ other → ⊥)
            → runs_of clock.running other + one_if (has waiting other) ≡ one_if (is_some (begun-now other))
        by other (inl same) = subst (λ (f : ℕ). runs_of clock.running f + one_if (has waiting f)
            ≡ one_if (is_some (begun-now f))) same own
          where
            own : runs_of clock.running flow.0 + one_if (has waiting flow.0) ≡ one_if (is_some (begun-now flow.0))
            own =
                let none = nothing.0 in
                let is : one_if (has waiting flow.0) ≡ 1 =
                ap one_if (more flow.0 ∙ ap (λ (b : Bool). b || has clock.waiting flow.0) (eq-eqb flow.0 flow.0 refl)) in
                let some : one_if (is_some (begun-now flow.0)) ≡ 1 = ap (λ (c : Option Inputs). one_if (is_some c)) own-now in
                omega (arith, none, is, some)
        by other (inr apart) =
            let calls = ticks.calls in
            let each = calls.each other in
            let waits : one_if (has waiting other) ≡ one_if (has clock.waiting other) =
            ap one_if (more other ∙ ap (λ (b : Bool). b || has clock.waiting other) (ne_eqb flow.0 other apart)) in
            let stays : one_if (is_some (begun-now other)) ≡ one_if (is_some (begun_by core other)) =
            ap (λ (c : Option Inputs). one_if (is_some c)) (other-now other apart) in
            omega (arith, each, waits, stays)

        nodes-now : AllByRecursion (λ r. IsOfNode r.node (begun-now r.flow.0)) clock.running
        nodes-now = let calls = ticks.calls in
            all-both (λ r. IsOfNode r.node (begun_by core r.flow.0)) (λ r. r.flow.0 ≡ flow.0 → ⊥)
            (λ r. IsOfNode r.node (begun-now r.flow.0))
            (λ r is other. subst (λ (c : Option Inputs). IsOfNode r.node c)
            (sym (other-now r.flow.0 (λ e. other (sym e)))) is)
            clock.running calls.nodes (runs-apart clock.running flow.0 nothing.0)

    begun : Goes meaning (with_begun core flow (Some inputs)) after-begin
    begun = record {
      ticks = record {
        journal = ticks.journal;
        runs = ticks.runs;
        past = ticks.past;
        calls = calls-now;
        room = ticks.room;
      };
      before = goes.before;
      beyond = goes.beyond;
    }

    pub begin-goes : Goes meaning new after-begin
    begin-goes = subst (λ (c : CoreState L). Goes meaning c after-begin) (sym begins.new_) begun

  pub begin-started : (inputs : Inputs) → BeginsCall meaning core new flow inputs → HasStarted core new
  begin-started inputs begins = subst (λ (c : CoreState L). HasStarted core c) (sym begins.new_)
      (let count = count-set (λ (call : Option Inputs). count_one (is_some call)) core.begun flow.0 (Some inputs) None
      (begun-none core flow.0 within begins.idle) in omega (arith, count))
