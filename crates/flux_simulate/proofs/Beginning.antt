-- The lowest flow whose call waits begins it on a free processor.
use Rattle.std.proofs.Common.{◌≡◌, ◌<◌, ◌+◌, ◌-◌, ◌⊎◌, inl, inr, ℕ, Bool, true, false, eqb, leb, ◌||◌, ◌&&◌, List, [], ◌∷◌, ◌++◌, length, Option, length-append, refl, sym, ap, subst, ◌∙◌, arith}
use Rattle.std.specs.List.{AllByRecursion}
use Rattle.std.specs.Option.{is_some}
use Rattle.std.proofs.lemmas.Bool.{cases_eq, cases_Bool, eqb-true, eq-eqb, ne_eqb, lt-leb, and_right, or_left, false≢true}
use Rattle.std.proofs.lemmas.List.Sums.{sum_by_push}
use Rattle.flux_values.specs.Meanings.{LibraryMeaning}
use Rattle.flux_model.specs.declared.items.FlowNo.{FlowNo}
use Rattle.flow_model.specs.Setup.{Setup}
use Rattle.flux_laws.proofs.Members.{all-more}
use Rattle.flow_state.specs.declared.inputs.Inputs.{Inputs}
use Rattle.flow_core.specs.States.{CoreState, setup_in, begun_by}
use Rattle.flow_waits.specs.steps.Waking.{has, TakesLowest}
use Rattle.flow_orders.specs.declared.runs.Run.{Run}
use Rattle.flux_simulate.specs.declared.clock.Clock.{Clock}
use Rattle.flow_orders.specs.Costs.{cost_of}
use Rattle.flow_orders.specs.Ticks.{timed}
use Rattle.flow_orders.specs.Runs.{starting_from}
use Rattle.flux_simulate.specs.steps.Calls.{IsRunOf}
use Rattle.flux_simulate.specs.steps.Ticking.{IsOn, Lasts, AllLast, one_if, runs_of, IsOfNode, RunOrWait, Ticks, Begins}
use Rattle.flux_simulate.proofs.Tallies.{count_one, runs-behind}
use Rattle.flux_simulate.proofs.Pasts.{alike-begun, past-alike}

-- numbers above a flow don't have it
above-has : (flow : ℕ) (numbers : List ℕ) → AllByRecursion (λ other. flow < other) numbers → (other : ℕ)
    → has numbers other ≡ true → flow < other
above-has flow [] above other is = absurd (false≢true is)
above-has flow (one ∷ numbers) above other is =
    by (cases_Bool (eqb other one)) (λ there. above-has flow numbers above.1 other there)
  where
    by : (eqb other one ≡ true) ⊎ (eqb other one ≡ false) → (has numbers other ≡ true → flow < other) → flow < other
    by (inl same) more = let lt = above.0 in let e = eqb-true other one same in omega (arith, lt, e)
    by (inr apart) more = more (ap (λ (b : Bool). b || has numbers other) (sym apart) ∙ is)

module _ {L : Type 0} (core : CoreState L) (clock : Clock) (flow : ℕ) (left : List ℕ)
    (takes : TakesLowest clock.waiting left flow) (calls : RunOrWait core clock.running clock.waiting) where
  waited : has clock.waiting flow ≡ true
  waited = ap (λ (numbers : List ℕ). has numbers flow) takes.was
      ∙ or_left (eqb flow flow) (has left flow) (eq-eqb flow flow refl)

  -- so its call is begun
  pub lowest-begun : is_some (begun_by core flow) ≡ true
  lowest-begun = by (is_some (begun_by core flow)) refl
    where
      by : (some : Bool) → is_some (begun_by core flow) ≡ some → some ≡ true
      by true is = refl
      by false is =
          let each = calls.each flow in
          let one = ap one_if waited in
          let none = ap one_if is in
          absurd (omega (arith, each, one, none))

module _ {L : Type 0} (meaning : L → LibraryMeaning) (core : CoreState L) (clock : Clock) (flow : FlowNo)
    (left : List ℕ) (begins : Begins meaning core clock) (takes : TakesLowest clock.waiting left flow.0)
    (free : length clock.running < clock.processors) (costs : List ℕ) (run : Run)
    (is : IsRunOf core costs clock.tick flow run) where
  abbrev pub after : Clock
  after = record {
    tick = clock.tick;
    at = clock.at;
    ended = clock.ended;
    processors = clock.processors;
    running = clock.running ++ run ∷ [];
    waiting = left;
  }

  abbrev setup : Setup
  setup = setup_in meaning core

  ticks : Ticks meaning core clock
  ticks = begins.ticks

  flow_is : run.flow.0 ≡ flow.0
  flow_is = ap (λ (r : Run). r.flow.0) is.is

  start_is : run.start ≡ clock.tick
  start_is = ap (λ (r : Run). r.start) is.is

  stop_is : run.stop ≡ clock.tick + cost_of costs (let inputs = is.inputs in inputs.node)
  stop_is = ap (λ (r : Run). r.stop) is.is

  node_is : run.node ≡ (let inputs = is.inputs in inputs.node)
  node_is = ap (λ (r : Run). r.node) is.is

  waited-own : has clock.waiting flow.0 ≡ true
  waited-own = waited core clock flow.0 left takes ticks.calls

  has-left : (other : ℕ) → has clock.waiting other ≡ (eqb other flow.0 || has left other)
  has-left other = ap (λ (numbers : List ℕ). has numbers other) takes.was

  calls-now : RunOrWait core (clock.running ++ run ∷ []) left
  calls-now = record { each = λ other. by other (cases_eq flow.0 other); nodes = nodes-now }
    where
      by : (other : ℕ) → (flow.0 ≡ other) ⊎ (flow.0 ≡ other → ⊥)
          → runs_of (clock.running ++ run ∷ []) other + one_if (has left other) ≡ one_if (is_some (begun_by core other))
      by other (inl same) =
          let calls = ticks.calls in
          let each = calls.each other in
          let more = runs-behind clock.running run other in
          let own : count_one (eqb run.flow.0 other) ≡ 1 =
          ap count_one (eq-eqb run.flow.0 other (flow_is ∙ same)) in
          let was : one_if (has clock.waiting other) ≡ 1 =
          ap one_if (ap (has clock.waiting) (sym same) ∙ waited-own) in
          let gone : one_if (has left other) ≡ 0 = ap one_if (not-left other same (has left other) refl) in
          omega (arith, each, more, own, was, gone)
        where
          not-left : (o : ℕ) → flow.0 ≡ o → (there : Bool) → has left o ≡ there → there ≡ false
          not-left o e true there = let lt = above-has flow.0 left takes.lowest o there in absurd (omega (arith, lt, e))
          not-left o e false there = refl
      by other (inr apart) =
          let calls = ticks.calls in
          let each = calls.each other in
          let more = runs-behind clock.running run other in
          let none : count_one (eqb run.flow.0 other) ≡ 0 =
          ap count_one (ne_eqb run.flow.0 other (λ e. apart (sym flow_is ∙ e))) in
          let stays : one_if (has clock.waiting other) ≡ one_if (has left other) =
          ap one_if (has-left other ∙ ap (λ (b : Bool). b || has left other) (ne_eqb other flow.0 (λ e. apart (sym e)))) in
          omega (arith, each, more, none, stays)

      nodes-now : AllByRecursion (λ r. IsOfNode r.node (begun_by core r.flow.0)) (clock.running ++ run ∷ [])
      nodes-now = let calls = ticks.calls in
          all-more (λ r. IsOfNode r.node (begun_by core r.flow.0)) clock.running run calls.nodes
          (subst (λ (c : Option Inputs). IsOfNode run.node c)
          (sym (ap (λ (f : ℕ). begun_by core f) flow_is ∙ is.begun)) (sym node_is))

  lower-now : (other : ℕ) → has left other ≡ true → starting_from (clock.running ++ run ∷ []) other clock.tick ≡ 0
  lower-now other there =
      let none = begins.lower other (has-left other
      ∙ ap (λ (b : Bool). eqb other flow.0 || b) there ∙ any (eqb other flow.0)) in
      let more = sum_by_push (λ (r : Run). count_one (eqb r.start clock.tick && leb other r.flow.0)) clock.running run in
      let above = above-has flow.0 left takes.lowest other there in
      let own : count_one (eqb run.start clock.tick && leb other run.flow.0) ≡ 0 = ap count_one
      (and_right (eqb run.start clock.tick) (leb other run.flow.0) (lt-leb other run.flow.0
      (let e = flow_is in omega (arith, above, e)))) in
      omega (arith, none, more, own)
    where
      any : (b : Bool) → (b || true) ≡ true
      any true = refl
      any false = refl

  pub begun-begins : Begins meaning core after
  begun-begins = record {
    ticks = record {
      journal = ticks.journal;
      runs = let runs = ticks.runs in record {
        ends = runs.ends;
        over = runs.over;
        on = all-more (IsOn clock.tick) clock.running run runs.on (record {
          begun = let e = start_is in omega (arith, e);
          on = let e = stop_is in omega (arith, e);
        });
        busy =
            let busy = runs.busy in
            let more = sum_by_push (λ (r : Run). clock.tick - r.start) clock.running run in
            omega (arith, busy, more);
      };
      past = past-alike setup clock.processors (timed clock.at core.entries) (timed clock.at core.entries)
          (clock.ended ++ clock.running) (clock.ended ++ (clock.running ++ run ∷ [])) clock.tick
          (λ t lt. refl)
          (λ t lt. alike-begun clock.ended clock.running run t (let e = start_is in omega (arith, e, lt))) ticks.past;
      calls = calls-now;
      room = let more = length-append clock.running (run ∷ []) in omega (arith, more, free);
    };
    beyond = all-more (λ r. clock.tick < r.stop) clock.running run begins.beyond
        (let e = stop_is in let low = is.low in omega (arith, e, low));
    none = begins.none;
    lower = lower-now;
  }

  pub begun-last : AllLast costs clock → AllLast costs after
  begun-last last = record {
    ended = last.ended;
    running = all-more (Lasts costs) clock.running run last.running
        (stop_is ∙ ap (λ (t : ℕ). t + cost_of costs (let inputs = is.inputs in inputs.node)) (sym start_is)
        ∙ ap (λ n. run.start + cost_of costs n) (sym node_is));
  }
