use Rattle.std.proofs.Common.{subst, sym, ◌∙◌}
use Rattle.std.proofs.lemmas.Bool.{false≢true}
use Rattle.flux_simulate.specs.steps.Calls.{AreSmall}
use Rattle.flux_simulate.proofs.Further.{further-same, further-then, further-small}
use Rattle.flux_simulate.proofs.Lessening.{tick-lessens}
use Rattle.flux_simulate.proofs.simulating.all_ticks.Goals as goal

pub settle-requires-clause-watched : goal.settle-requires-clause-watched
settle-requires-clause-watched g c = c.in_ok-idlers.ensures 0

pub returns-in_err-idlers-clause-further : goal.returns-in_err-idlers-clause-further
returns-in_err-idlers-clause-further g c = further-same c.args.core.now

pub ticks-init : goal.ticks-init
ticks-init g c = record {
  kept = c.settle.ensures.kept;
  further = c.settle.ensures.further;
  rests = c.in_ok-settle.ensures.rests;
  watched = c.in_ok-settle.ensures.watched;
  last = c.in_ok-settle.ensures.last;
  processors = c.settle.ensures.processors;
  over = λ e. absurd (false≢true (sym e));
}

pub next_tick-requires-clause-small : goal.next_tick-requires-clause-small
next_tick-requires-clause-small g c =
    subst (AreSmall g.L.Meaning.meaning c.ticks.core c.args.costs.now) (sym c.ticks.invariant.processors)
    (further-small g.L.Meaning.meaning c.args.core.now c.ticks.core c.args.costs.now c.args.clock.now.processors
    c.ticks.invariant.further c.requires.small)

pub returns-in_err-more-clause-further : goal.returns-in_err-more-clause-further
returns-in_err-more-clause-further g c =
    further-then c.args.core.now c.ticks.core c.next_tick.new.core c.ticks.invariant.further
    c.next_tick.ensures.further

pub ticks-smaller : goal.ticks-smaller
ticks-smaller g c =
    let tick = c.in_ok-more.ensures.tick in
    tick-lessens g.L.Meaning.meaning c.args.core.now c.ticks.core c.next_tick.new.core
    (further-then c.args.core.now c.ticks.core c.next_tick.new.core c.ticks.invariant.further
    c.next_tick.ensures.further) c.next_tick.ensures.kept c.next_tick.ensures.further c.ticks.more _
    c.ticks-test.true tick.longer

pub ticks-preserved : goal.ticks-preserved
ticks-preserved g c =
    let tick = c.in_ok-more.ensures.tick in record {
      kept = c.next_tick.ensures.kept;
      further = further-then c.args.core.now c.ticks.core c.next_tick.new.core c.ticks.invariant.further
          c.next_tick.ensures.further;
      rests = tick.rests;
      watched = c.in_ok-more.ensures.watched;
      last = c.in_ok-more.ensures.last;
      processors = c.next_tick.ensures.processors ∙ c.ticks.invariant.processors;
      over = tick.over;
    }

pub returns-clause-over : goal.returns-clause-over
returns-clause-over g c = c.ticks.invariant.over c.ticks-test.false
