use Rattle.std.proofs.Common.{◌∙◌, refl}
use Rattle.flux_simulate.proofs.Further.{further-same, further-then}
use Rattle.flux_simulate.proofs.Lessening.{started-lessens}
use Rattle.flux_simulate.proofs.simulating.go_on.Goals as goal

pub loop-flow-init : goal.loop-flow-init
loop-flow-init g c = record {
  kept = c.requires.kept;
  further = further-same c.args.core.now;
  goes = c.requires.goes;
  watched = c.requires.watched;
  ended = refl;
  running = refl;
  processors = refl;
}

pub go_one-requires-clause-first : goal.go_one-requires-clause-first
go_one-requires-clause-first g c = let chosen = rw c.in-Some.is at c.in_ok-flow.ensures.first in chosen.first

pub go_one-requires-clause-ready : goal.go_one-requires-clause-ready
go_one-requires-clause-ready g c = let chosen = rw c.in-Some.is at c.in_ok-flow.ensures.first in chosen.ready

pub returns-in_err-go_one-clause-further : goal.returns-in_err-go_one-clause-further
returns-in_err-go_one-clause-further g c =
    further-then c.args.core.now c.loop-flow.core c.go_one.new.core c.loop-flow.invariant.further
    c.go_one.ensures.further

pub loop-flow-smaller : goal.loop-flow-smaller
loop-flow-smaller g c =
    started-lessens g.L.Meaning.meaning c.args.core.now c.loop-flow.core c.go_one.new.core
    (further-then c.args.core.now c.loop-flow.core c.go_one.new.core c.loop-flow.invariant.further
    c.go_one.ensures.further) c.go_one.ensures.kept c.in_ok-go_one.ensures.less

pub loop-flow-preserved : goal.loop-flow-preserved
loop-flow-preserved g c = record {
  kept = c.go_one.ensures.kept;
  further = further-then c.args.core.now c.loop-flow.core c.go_one.new.core c.loop-flow.invariant.further
      c.go_one.ensures.further;
  goes = c.in_ok-go_one.ensures.goes;
  watched = c.in_ok-go_one.ensures.watched;
  ended = c.go_one.ensures.ended ∙ c.loop-flow.invariant.ended;
  running = c.go_one.ensures.running ∙ c.loop-flow.invariant.running;
  processors = c.go_one.ensures.processors ∙ c.loop-flow.invariant.processors;
}
