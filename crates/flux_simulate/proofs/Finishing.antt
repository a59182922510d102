-- A call is finished, of the lowest flow of those whose runs stop at the tick.
use Rattle.std.proofs.Common.{◌≡◌, ◌<◌, ◌≤◌, ◌+◌, ◌-◌, ◌⊎◌, inl, inr, ℕ, eqb, List, [], ◌∷◌, ◌++◌, map, length, Option, Some, None, length-append, refl, sym, ap, subst, ◌∙◌, arith}
use Rattle.std.specs.List.{AllByRecursion, sum_by, slice_get, slice_set}
use Rattle.std.specs.Option.{is_some, option_flatten}
use Rattle.std.proofs.lemmas.Bool.{cases_eq, cases_lt}
use Rattle.std.proofs.lemmas.List.{map-append}
use Rattle.std.proofs.lemmas.List.Sums.{sum_by_push}
use Rattle.flux_values.specs.Meanings.{LibraryMeaning}
use Rattle.flow_model.specs.declared.journals.CallMade.{CallMade}
use Rattle.flow_model.specs.declared.journals.Entry.{Entry}
use Rattle.flow_model.specs.declared.journals.Event.TheVariants.{Call}
use Rattle.flow_model.specs.Setup.{Setup}
use Rattle.flux_laws.proofs.Members.{all-more}
use Rattle.flow_state.specs.declared.inputs.Inputs.{Inputs}
use Rattle.flow_state.proofs.Sets.{get-replaced, get-replaced_other}
use Rattle.flow_core.specs.States.{CoreState, setup_in, begun_by}
use Rattle.flow_core.specs.Moves.{with_entry, with_begun}
use Rattle.flow_waits.specs.steps.Waking.{has}
use Rattle.flow_orders.specs.declared.runs.Run.{Run}
use Rattle.flux_simulate.specs.declared.clock.Clock.{Clock}
use Rattle.flow_orders.specs.Ticks.{Timed, timed, until, at_tick}
use Rattle.flow_orders.specs.Runs.{CallEnd, end_of, ends_in}
use Rattle.flow_orders.specs.Rule.{IsCallBelow}
use Rattle.flux_simulate.specs.steps.Changes.{StopsNoLater}
use Rattle.flux_simulate.specs.steps.Calls.{EndsBegun}
use Rattle.flux_simulate.specs.steps.Ticking.{IsTimed, IsOver, IsOn, AreRuns, ArePast, Lasts, AllLast, one_if, runs_of, IsOfNode, RunOrWait, Ticks, IsCallUnder, Finishes}
use Rattle.flux_simulate.proofs.Journals.{timed-more, until-later, at_tick-more, ends-more}
use Rattle.flux_simulate.proofs.Tallies.{count_one, all-map, all-both, all-taken, all-left, sum-taken, runs-taken, own-one, other-none, runs-apart}
use Rattle.flux_simulate.proofs.Pasts.{AreAlike, alike-moved, past-alike}
use Rattle.flux_simulate.proofs.Timing.{timed-on}

-- ---- begun calls of which one is changed

begun-place : (call : Option (Option Inputs)) (inputs : Inputs) → option_flatten call ≡ Some inputs
    → call ≡ Some (Some inputs)
begun-place None inputs is = absurd cc
begun-place (Some None) inputs is = absurd cc
begun-place (Some (Some own)) inputs is = ap (λ (i : Option Inputs). Some i) is

-- a flow whose call was begun has the one that is put there
pub begun-own : {L : Type 0} (core : CoreState L) (flow : ℕ) (call : Option Inputs) (inputs : Inputs)
    → begun_by core flow ≡ Some inputs → option_flatten (slice_get (slice_set core.begun flow call) flow) ≡ call
begun-own core flow call inputs is =
    ap option_flatten (get-replaced core.begun flow call (Some inputs)
    (begun-place (slice_get core.begun flow) inputs is))

pub begun-other : {L : Type 0} (core : CoreState L) (flow : ℕ) (call : Option Inputs) (other : ℕ)
    → (flow ≡ other → ⊥)
    → option_flatten (slice_get (slice_set core.begun flow call) other) ≡ begun_by core other
begun-other core flow call other apart = ap option_flatten (get-replaced_other core.begun flow other call apart)

-- the node of a begun call
pub node-of : (run : Run) (call : Option Inputs) (inputs : Inputs) → call ≡ Some inputs → IsOfNode run.node call
    → inputs.node ≡ run.node
node-of run call inputs is own = subst (λ (c : Option Inputs). IsOfNode run.node c) is own

-- ---- what is kept

module _ {L : Type 0} (meaning : L → LibraryMeaning) (core new : CoreState L) (clock : Clock) (run : Run)
    (front back : List Run) (finishes : Finishes meaning core clock) (was : clock.running ≡ front ++ run ∷ back)
    (first : AllByRecursion (StopsNoLater run) clock.running) (stops : run.stop ≡ clock.tick)
    (ends : EndsBegun meaning core new run.flow) where
  abbrev setup : Setup
  setup = setup_in meaning core

  abbrev journal : Timed
  journal = timed clock.at core.entries

  abbrev pub after : Clock
  after = record {
    tick = clock.tick;
    at = clock.at ++ clock.tick ∷ [];
    ended = clock.ended ++ run ∷ [];
    processors = clock.processors;
    running = front ++ back;
    waiting = clock.waiting;
  }

  abbrev entry : CallMade → Entry
  entry call = record { flow = run.flow; event = Call call }

  begun : begun_by core run.flow.0 ≡ Some ends.inputs
  begun = let call = ends.ends in call.begun

  -- ---- the run and the others

  ticks : Ticks meaning core clock
  ticks = finishes.ticks

  split : (P : Run → Type 0) → AllByRecursion P clock.running → AllByRecursion P (front ++ run ∷ back)
  split P all = subst (AllByRecursion P) was all

  left : (P : Run → Type 0) → AllByRecursion P clock.running → AllByRecursion P (front ++ back)
  left P all = all-left P front run back (split P all)

  own : (P : Run → Type 0) → AllByRecursion P clock.running → P run
  own P all = all-taken P front run back (split P all)

  counted : (flow : ℕ) → runs_of clock.running flow ≡ runs_of (front ++ back) flow + count_one (eqb run.flow.0 flow)
  counted flow = ap (λ (rs : List Run). runs_of rs flow) was ∙ runs-taken front run back flow

  -- the flow has no other run
  alone : runs_of (front ++ back) run.flow.0 ≡ 0
  alone =
      let calls = ticks.calls in
      let each = calls.each run.flow.0 in
      let one : one_if (is_some (begun_by core run.flow.0)) ≡ 1 = ap (λ (call : Option Inputs). one_if (is_some call)) begun in
      let count = counted run.flow.0 in
      let self = own-one run.flow.0 in
      omega (arith, each, one, count, self)

  apart : AllByRecursion (λ r. r.flow.0 ≡ run.flow.0 → ⊥) (front ++ back)
  apart = runs-apart (front ++ back) run.flow.0 alone

  node_is : (call : CallMade) → call.node ≡ ends.inputs.node → run.node ≡ call.node
  node_is call same =
      let calls = ticks.calls in
      sym (same ∙ node-of run (begun_by core run.flow.0) ends.inputs begun
      (own (λ r. IsOfNode r.node (begun_by core r.flow.0)) calls.nodes))

  -- ---- the journal

  first-calls : AllByRecursion (IsCallBelow run.flow.0) (at_tick clock.tick journal)
  first-calls = all-map (IsCallUnder clock.running clock.tick) (IsCallBelow run.flow.0)
      (λ e is. record {
        made = is.made;
        is = is.is;
        below = own (λ r. r.stop ≡ clock.tick → e.flow.0 < r.flow.0) is.under stops;
      }) (at_tick clock.tick journal) finishes.calls

  module _ (call : CallMade) where
    grown : timed (clock.at ++ clock.tick ∷ []) (core.entries ++ entry call ∷ []) ≡ journal ++ (clock.tick, entry call) ∷ []
    grown = let own_journal = ticks.journal in timed-more clock.at core.entries clock.tick (entry call) own_journal.each

    timed-now : IsTimed setup (core.entries ++ entry call ∷ []) (clock.at ++ clock.tick ∷ []) clock.tick
    timed-now = timed-on setup core.entries clock.at clock.tick run.flow (Call call) ticks.journal
        (inl (record { made = call; is = refl; first = first-calls })) (λ key mode e. cc)

    -- ---- the runs

    ends-now : run.node ≡ call.node → map end_of (clock.ended ++ run ∷ [])
        ≡ ends_in (timed (clock.at ++ clock.tick ∷ []) (core.entries ++ entry call ∷ []))
    ends-now same =
        let own_runs = ticks.runs in
        map-append end_of clock.ended (run ∷ [])
        ∙ ap (λ (es : List CallEnd). es ++ end_of run ∷ []) own_runs.ends
        ∙ (λ i. ends_in journal ++ record { flow = run.flow; node = same i; tick = stops i } ∷ [])
        ∙ sym (ends-more journal clock.tick run.flow (Call call)) ∙ ap ends_in (sym grown)

    runs-now : run.node ≡ call.node
        → AreRuns (timed (clock.at ++ clock.tick ∷ []) (core.entries ++ entry call ∷ [])) (clock.ended ++ run ∷ [])
        (front ++ back) clock.tick
    runs-now same = let own_runs = ticks.runs in record {
      ends = ends-now same;
      over = all-more (IsOver clock.tick) clock.ended run own_runs.over (record {
        took = let early = own (λ r. r.start < clock.tick) finishes.before in omega (arith, early, stops);
        over = omega (arith, stops);
      });
      on = left (IsOn clock.tick) own_runs.on;
      busy =
          let busy = own_runs.busy in
          let pushed = sum_by_push (λ (r : Run). r.stop - r.start) clock.ended run in
          let whole = ap (sum_by (λ (r : Run). clock.tick - r.start)) was in
          let taken = sum-taken (λ (r : Run). clock.tick - r.start) front run back in
          omega (arith, busy, pushed, whole, taken, stops);
    }

    past-now : ArePast setup clock.processors
        (timed (clock.at ++ clock.tick ∷ []) (core.entries ++ entry call ∷ []))
        ((clock.ended ++ run ∷ []) ++ (front ++ back)) clock.tick
    past-now = past-alike setup clock.processors journal
        (timed (clock.at ++ clock.tick ∷ []) (core.entries ++ entry call ∷ [])) (clock.ended ++ clock.running)
        ((clock.ended ++ run ∷ []) ++ (front ++ back)) clock.tick
        (λ t lt. ap (until t) grown ∙ until-later t clock.tick journal (entry call) lt)
        (λ t lt. subst (λ (rs : List Run). AreAlike (clock.ended ++ rs) ((clock.ended ++ run ∷ []) ++ (front ++ back)) t)
        (sym was) (alike-moved clock.ended front run back t)) ticks.past

    -- ---- the calls

    calls-now : RunOrWait (with_begun (with_entry core run.flow (Call call)) run.flow None) (front ++ back) clock.waiting
    calls-now = record { each = λ flow. by flow (cases_eq run.flow.0 flow); nodes = nodes-now }
      where
        by : (flow : ℕ) → (run.flow.0 ≡ flow) ⊎ (run.flow.0 ≡ flow → ⊥)
            → runs_of (front ++ back) flow + one_if (has clock.waiting flow)
            ≡ one_if (is_some (option_flatten (slice_get (slice_set core.begun run.flow.0 None) flow)))
        by flow (inl same) =
            let calls = ticks.calls in
            let each = calls.each flow in
            let none : one_if (is_some (option_flatten (slice_get (slice_set core.begun run.flow.0 None) flow))) ≡ 0 =
            ap (λ (f : ℕ). one_if (is_some (option_flatten (slice_get (slice_set core.begun run.flow.0 None) f)))) (sym same)
            ∙ ap (λ (c : Option Inputs). one_if (is_some c)) (begun-own core run.flow.0 None ends.inputs begun) in
            let one : one_if (is_some (begun_by core flow)) ≡ 1 =
            ap (λ (f : ℕ). one_if (is_some (begun_by core f))) (sym same)
            ∙ ap (λ (c : Option Inputs). one_if (is_some c)) begun in
            let count = counted flow in
            let self : count_one (eqb run.flow.0 flow) ≡ 1 = ap (λ (f : ℕ). count_one (eqb run.flow.0 f)) (sym same) ∙ own-one run.flow.0 in
            omega (arith, each, none, one, count, self)
        by flow (inr other) =
            let calls = ticks.calls in
            let each = calls.each flow in
            let stays = ap (λ (c : Option Inputs). one_if (is_some c)) (begun-other core run.flow.0 None flow other) in
            let count = counted flow in
            let none = other-none run.flow.0 flow other in
            omega (arith, each, stays, count, none)

        nodes-now : AllByRecursion (λ r. IsOfNode r.node
            (option_flatten (slice_get (slice_set core.begun run.flow.0 None) r.flow.0))) (front ++ back)
        nodes-now = let calls = ticks.calls in
            all-both (λ r. IsOfNode r.node (begun_by core r.flow.0)) (λ r. r.flow.0 ≡ run.flow.0 → ⊥)
            (λ r. IsOfNode r.node (option_flatten (slice_get (slice_set core.begun run.flow.0 None) r.flow.0)))
            (λ r is other. subst (λ (c : Option Inputs). IsOfNode r.node c)
            (sym (begun-other core run.flow.0 None r.flow.0 (λ e. other (sym e)))) is)
            (front ++ back) (left (λ r. IsOfNode r.node (begun_by core r.flow.0)) calls.nodes) apart

    under-now : AllByRecursion (λ r. r.stop ≡ clock.tick → run.flow.0 < r.flow.0) (front ++ back)
    under-now = all-both (StopsNoLater run) (λ r. r.flow.0 ≡ run.flow.0 → ⊥)
        (λ r. r.stop ≡ clock.tick → run.flow.0 < r.flow.0)
        (λ r no_later other same. let le = no_later.flow (stops ∙ sym same) in
        by r (cases_eq r.flow.0 run.flow.0) other le) (front ++ back) (left (StopsNoLater run) first) apart
      where
        by : (r : Run) → (r.flow.0 ≡ run.flow.0) ⊎ (r.flow.0 ≡ run.flow.0 → ⊥) → (r.flow.0 ≡ run.flow.0 → ⊥)
            → run.flow.0 ≤ r.flow.0 → run.flow.0 < r.flow.0
        by r (inl same) other le = absurd (other same)
        by r (inr ne) other le = by_order (cases_lt run.flow.0 r.flow.0)
          where
            by_order : (run.flow.0 < r.flow.0) ⊎ (r.flow.0 ≤ run.flow.0) → run.flow.0 < r.flow.0
            by_order (inl lt) = lt
            by_order (inr ge) = absurd (ne (omega (arith, ge, le)))

    finished : run.node ≡ call.node
        → Finishes meaning (with_begun (with_entry core run.flow (Call call)) run.flow None) after
    finished same = record {
      ticks = record {
        journal = timed-now;
        runs = runs-now same;
        past = past-now;
        calls = calls-now;
        room =
            let room = ticks.room in
            let whole = ap length was in
            let long = length-append front (run ∷ back) in
            let short = length-append front back in
            omega (arith, room, whole, long, short);
      };
      before = left (λ r. r.start < clock.tick) finishes.before;
      calls = subst (AllByRecursion (IsCallUnder (front ++ back) clock.tick))
          (sym (ap (at_tick clock.tick) grown ∙ at_tick-more clock.tick journal (entry call)))
          (all-more (IsCallUnder (front ++ back) clock.tick) (at_tick clock.tick journal) (entry call)
          (all-map (IsCallUnder clock.running clock.tick) (IsCallUnder (front ++ back) clock.tick)
          (λ e is. record {
            made = is.made;
            is = is.is;
            under = left (λ r. r.stop ≡ clock.tick → e.flow.0 < r.flow.0) is.under;
          }) (at_tick clock.tick journal) finishes.calls)
          (record { made = call; is = refl; under = under-now }));
    }

  pub finished-call : Finishes meaning new after
  finished-call =
      let call = ends.ends in
      subst (λ (c : CoreState L). Finishes meaning c after) (sym call.new_)
      (finished call.made (node_is call.made (ap (λ (m : CallMade). m.node) call.made_)))

  pub finished-last : (costs : List ℕ) → AllLast costs clock → AllLast costs after
  finished-last costs last = record {
    ended = all-more (Lasts costs) clock.ended run last.ended (own (Lasts costs) last.running);
    running = left (Lasts costs) last.running;
  }

  pub finished-longer : length new.entries ≡ length core.entries + 1
  finished-longer =
      let call = ends.ends in
      ap (λ (c : CoreState L). length c.entries) call.new_ ∙ length-append core.entries (entry call.made ∷ [])
