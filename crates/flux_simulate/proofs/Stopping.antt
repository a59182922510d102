-- The run that stops first is taken out, and its call is finished.
use Rattle.std.proofs.Common.{◌≡◌, ◌<◌, ◌≤◌, ℕ, zero, suc, true, List, [], ◌∷◌, ◌++◌, length, Option, Some, None, refl, sym, subst, arith}
use Rattle.std.specs.List.{AllByRecursion, slice_get}
use Rattle.std.specs.Option.{is_some, option_flatten}
use Rattle.std.proofs.lemmas.Bool.{false≢true}
use Rattle.flux_values.specs.Meanings.{LibraryMeaning}
use Rattle.flux_model.specs.declared.programs.NodeNo.{NodeNo}
use Rattle.flow_state.specs.declared.inputs.Inputs.{Inputs}
use Rattle.flow_core.specs.States.{CoreState, begun_by, IsKept}
use Rattle.flow_orders.specs.declared.runs.Run.{Run}
use Rattle.flux_simulate.specs.declared.clock.Clock.{Clock}
use Rattle.flux_simulate.specs.steps.Changes.{TakesNext}
use Rattle.flux_simulate.specs.steps.Calls.{EndsBegun}
use Rattle.flux_simulate.specs.steps.Ticking.{IsOn, AllLast, IsOfNode, RunOrWait, Finishes, Rests}
use Rattle.flux_simulate.proofs.Tallies.{all-taken}
use Rattle.flux_simulate.proofs.Finishing.{finished-call, finished-last}
use Rattle.flux_simulate.proofs.Advancing.{advanced}

-- a begun call is that of a flow that is there
begun-there : (calls : List (Option Inputs)) (flow : ℕ) → is_some (option_flatten (slice_get calls flow)) ≡ true
    → flow < length calls
begun-there [] flow is = absurd (false≢true is)
begun-there (call ∷ calls) zero is = omega arith
begun-there (call ∷ calls) (suc flow) is = let more = begun-there calls flow is in omega (arith, more)

node-some : (node : NodeNo) (call : Option Inputs) → IsOfNode node call → is_some call ≡ true
node-some node None is = absurd is
node-some node (Some inputs) is = refl

pub flow-within : {L : Type 0} (meaning : L → LibraryMeaning) (core : CoreState L) (running : List Run)
    (waiting : List ℕ) (run : Run) (left : List Run) → IsKept meaning core → RunOrWait core running waiting
    → TakesNext running left run → run.flow.0 < length core.setup.items
flow-within meaning core running waiting run left kept calls takes =
    let out = takes.out in
    let own = all-taken (λ r. IsOfNode r.node (begun_by core r.flow.0)) out.front run out.back
    (subst (AllByRecursion (λ r. IsOfNode r.node (begun_by core r.flow.0))) out.was calls.nodes) in
    let there = begun-there core.begun run.flow.0 (node-some run.node (begun_by core run.flow.0) own) in
    let each = kept.each in
    omega (arith, there, each)

module _ {L : Type 0} (meaning : L → LibraryMeaning) (core new : CoreState L) (clock : Clock) (run : Run)
    (left : List Run) (finishes : Finishes meaning core clock) (takes : TakesNext clock.running left run)
    (due : run.stop ≤ clock.tick) (ends : EndsBegun meaning core new run.flow) where
  abbrev pub after-stop : Clock
  after-stop = record {
    tick = clock.tick;
    at = clock.at ++ clock.tick ∷ [];
    ended = clock.ended ++ run ∷ [];
    processors = clock.processors;
    running = left;
    waiting = clock.waiting;
  }

  stops : run.stop ≡ clock.tick
  stops =
      let out = takes.out in
      let ticks = finishes.ticks in
      let runs = ticks.runs in
      let is = all-taken (IsOn clock.tick) out.front run out.back (subst (AllByRecursion (IsOn clock.tick)) out.was runs.on) in
      let on = is.on in
      omega (arith, on, due)

  pub stopped : Finishes meaning new after-stop
  stopped = let out = takes.out in
      subst (λ (rs : List Run). Finishes meaning new (record after-stop { running = rs })) (sym out.is)
      (finished-call meaning core new clock run out.front out.back finishes out.was takes.first stops ends)

  pub stopped-last : (costs : List ℕ) → AllLast costs clock → AllLast costs after-stop
  stopped-last costs last = let out = takes.out in
      subst (λ (rs : List Run). AllLast costs (record after-stop { running = rs })) (sym out.is)
      (finished-last meaning core new clock run out.front out.back finishes out.was takes.first stops ends costs last)

-- the same, where time passes to its stop
module _ {L : Type 0} (meaning : L → LibraryMeaning) (core new : CoreState L) (clock : Clock) (run : Run)
    (left : List Run) (kept : IsKept meaning core) (rests : Rests meaning core clock)
    (takes : TakesNext clock.running left run) (ends : EndsBegun meaning core new run.flow) where
  abbrev later : Clock
  later = record {
    tick = run.stop;
    at = clock.at;
    ended = clock.ended;
    processors = clock.processors;
    running = clock.running;
    waiting = clock.waiting;
  }

  arrived : Finishes meaning core later
  arrived = let out = takes.out in
      advanced meaning core clock run out.front out.back kept rests out.was takes.first

  pub arrived-stopped : Finishes meaning new (record {
    tick = run.stop;
    at = clock.at ++ run.stop ∷ [];
    ended = clock.ended ++ run ∷ [];
    processors = clock.processors;
    running = left;
    waiting = clock.waiting;
  })
  arrived-stopped = stopped meaning core new later run left arrived takes (omega arith) ends

  pub arrived-last : (costs : List ℕ) → AllLast costs clock → AllLast costs (record {
    tick = run.stop;
    at = clock.at ++ run.stop ∷ [];
    ended = clock.ended ++ run ∷ [];
    processors = clock.processors;
    running = left;
    waiting = clock.waiting;
  })
  arrived-last costs last = stopped-last meaning core new later run left arrived takes (omega arith) ends costs
      (record { ended = last.ended; running = last.running })
