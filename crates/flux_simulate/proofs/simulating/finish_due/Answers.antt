use Rattle.std.proofs.Common.{subst, sym, ◌∙◌}
use Rattle.std.specs.List.{AllByRecursion}
use Rattle.flux_simulate.specs.declared.clock.Clock.{Clock}
use Rattle.flux_simulate.specs.steps.Ticking.{AllLast, Lasts, Finishes}
use Rattle.flux_simulate.proofs.Further.{further-then}
use Rattle.flux_simulate.proofs.Stopping.{flow-within, stopped, stopped-last}
use Rattle.flux_simulate.proofs.simulating.finish_due.Goals as goal

pub finish_run-requires-clause-flow : goal.finish_run-requires-clause-flow
finish_run-requires-clause-flow g c =
    let finishes = c.loop-run.invariant.finishes in
    let ticks = finishes.ticks in
    flow-within g.L.Meaning.meaning c.loop-run.core c.loop-run.clock.running c.loop-run.clock.waiting c.in-Some.run'
    c.take_due.new.self c.loop-run.invariant.kept ticks.calls c.in-Some.ensures.0

pub loop-run-preserved : goal.loop-run-preserved
loop-run-preserved g c = record {
  kept = c.finish_run.ensures.kept;
  further = further-then c.args.core.now c.loop-run.core c.finish_run.new.core c.loop-run.invariant.further
      c.finish_run.ensures.further;
  finishes = subst (λ (clock : Clock). Finishes g.L.Meaning.meaning c.finish_run.new.core clock)
      (sym c.in_ok-note_end.ensures.ok)
      (stopped g.L.Meaning.meaning c.loop-run.core c.finish_run.new.core c.loop-run.clock c.in-Some.run'
      c.take_due.new.self c.loop-run.invariant.finishes c.in-Some.ensures.0 c.in-Some.ensures.1
      c.in_ok-finish_run.ensures.ends);
  watched = c.in_ok-finish_run.ensures.watched;
  last = λ costs last. subst (λ (clock : Clock). AllLast costs clock) (sym c.in_ok-note_end.ensures.ok)
      (stopped-last g.L.Meaning.meaning c.loop-run.core c.finish_run.new.core c.loop-run.clock c.in-Some.run'
      c.take_due.new.self c.loop-run.invariant.finishes c.in-Some.ensures.0 c.in-Some.ensures.1
      c.in_ok-finish_run.ensures.ends costs (c.loop-run.invariant.last costs last));
  processors = c.note_end.ensures.processors ∙ c.loop-run.invariant.processors;
}

pub returns-clause-last : goal.returns-clause-last
returns-clause-last g c = λ costs last.
    let all = c.loop-run.invariant.last costs last in
    record {
      ended = all.ended;
      running = subst (AllByRecursion (Lasts costs)) (sym c.in_default.ensures.1) all.running;
    }
