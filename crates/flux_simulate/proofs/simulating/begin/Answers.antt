use Rattle.std.proofs.Common.{◌<◌, length, subst, sym, arith}
use Rattle.flux_model.specs.declared.items.FlowNo.{FlowNo}
use Rattle.flux_simulate.specs.steps.Calls.{AreSmall}
use Rattle.flux_simulate.specs.steps.Ticking.{AllLast, Begins}
use Rattle.flux_simulate.proofs.Bounds.{tick-small}
use Rattle.flux_simulate.proofs.Beginning.{begun-begins, begun-last}
use Rattle.flux_simulate.proofs.simulating.begin.Goals as goal

pub run_of-requires-clause-tick : goal.run_of-requires-clause-tick
run_of-requires-clause-tick g c =
    let begins = c.loop-clock.invariant.begins in
    tick-small g.L.Meaning.meaning c.args.core.now c.loop-clock.clock c.args.costs.now c.requires.kept
    (subst (AreSmall g.L.Meaning.meaning c.args.core.now c.args.costs.now) (sym c.loop-clock.invariant.processors)
    c.requires.small) begins.ticks c.loop-clock.invariant.last

pub loop-clock-preserved : goal.loop-clock-preserved
loop-clock-preserved g c =
    let clock = c.loop-clock.clock in
    let flow : FlowNo = record { 0 = c.in-Some.number } in
    let free : length clock.running < clock.processors = omega (arith, c.loop-clock-test.true, c.len.ensures) in
    record {
      begins = subst (λ running. Begins g.L.Meaning.meaning c.args.core.now (record clock {
        running = running;
        waiting = c.take_lowest.new.self;
      })) (sym c.in_ok-add.ensures.ok)
          (begun-begins g.L.Meaning.meaning c.args.core.now clock flow c.take_lowest.new.self
          c.loop-clock.invariant.begins c.in-Some.ensures free c.args.costs.now c.in_ok-run.run' c.in_ok-run.ensures);
      last = subst (λ running. AllLast c.args.costs.now (record clock {
        running = running;
        waiting = c.take_lowest.new.self;
      })) (sym c.in_ok-add.ensures.ok)
          (begun-last g.L.Meaning.meaning c.args.core.now clock flow c.take_lowest.new.self
          c.loop-clock.invariant.begins c.in-Some.ensures free c.args.costs.now c.in_ok-run.run' c.in_ok-run.ensures
          c.loop-clock.invariant.last);
      processors = c.loop-clock.invariant.processors;
    }
