use Rattle.std.proofs.Common.{subst, sym, arith}
use Rattle.std.proofs.lemmas.Bool.{false≢true}
use Rattle.flux_simulate.specs.steps.Calls.{AreSmall}
use Rattle.flux_simulate.specs.steps.Ticking.{IsFurtherTick}
use Rattle.flux_simulate.proofs.Further.{further-then, further-small}
use Rattle.flux_simulate.proofs.Lessening.{further-longer}
use Rattle.flux_simulate.proofs.simulating.next_tick.Goals as goal

pub settle-requires-clause-goes : goal.settle-requires-clause-goes
settle-requires-clause-goes g c =
    let tick = subst (IsFurtherTick g.L.Meaning.meaning c.args.core.now c.finish_next.new.core
    c.finish_next.new.clock) c.if-stopped.true c.in_ok-stopped.ensures.tick in
    tick.0

pub settle-requires-clause-last : goal.settle-requires-clause-last
settle-requires-clause-last g c = c.in_ok-stopped.ensures.last c.args.costs.now c.requires.last

pub settle-requires-clause-small : goal.settle-requires-clause-small
settle-requires-clause-small g c =
    subst (AreSmall g.L.Meaning.meaning c.finish_next.new.core c.args.costs.now)
    (sym c.finish_next.ensures.processors)
    (further-small g.L.Meaning.meaning c.args.core.now c.finish_next.new.core c.args.costs.now
    c.args.clock.now.processors c.finish_next.ensures.further c.requires.small)

pub returns-in_err-settle-clause-further : goal.returns-in_err-settle-clause-further
returns-in_err-settle-clause-further g c =
    further-then c.args.core.now c.finish_next.new.core c.settle.new.core c.finish_next.ensures.further
    c.settle.ensures.further

pub returns-then-stopped-clause-tick : goal.returns-then-stopped-clause-tick
returns-then-stopped-clause-tick g c =
    let tick = subst (IsFurtherTick g.L.Meaning.meaning c.args.core.now c.finish_next.new.core
    c.finish_next.new.clock) c.if-stopped.true c.in_ok-stopped.ensures.tick in
    let first = tick.1 in
    let more = further-longer c.finish_next.new.core c.settle.new.core c.settle.ensures.further in
    record {
      rests = c.in_ok-settle.ensures.rests;
      longer = λ e. omega (arith, first, more);
      over = λ e. absurd (false≢true (sym e));
    }

pub returns-then-stopped-clause-further : goal.returns-then-stopped-clause-further
returns-then-stopped-clause-further g c =
    further-then c.args.core.now c.finish_next.new.core c.settle.new.core c.finish_next.ensures.further
    c.settle.ensures.further

pub returns-clause-tick : goal.returns-clause-tick
returns-clause-tick g c =
    let tick = subst (IsFurtherTick g.L.Meaning.meaning c.args.core.now c.finish_next.new.core
    c.finish_next.new.clock) c.if-stopped.false c.in_ok-stopped.ensures.tick in
    record {
      rests = tick.0;
      longer = λ e. absurd (false≢true e);
      over = λ e. tick.1;
    }

pub returns-clause-last : goal.returns-clause-last
returns-clause-last g c = c.in_ok-stopped.ensures.last c.args.costs.now c.requires.last
