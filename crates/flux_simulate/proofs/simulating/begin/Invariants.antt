use Rattle.std.proofs.Common.{◌≡◌, ◌-◌, length}
use Rattle.flux_simulate.specs.steps.Ticking.{AllLast, Begins}
use Rattle.flux_simulate.proofs.simulating.begin.Given as goal

abbrev pub invariant-loop-clock : goal.invariant-loop-clock
invariant-loop-clock g l = record {
  begins : Begins g.L.Meaning.meaning l.core l.clock;
  last : AllLast l.costs l.clock;
  processors : l.clock.processors ≡ l.fn.clock.processors;
}

abbrev pub decreases-loop-clock : goal.decreases-loop-clock
decreases-loop-clock g l = l.clock.processors - length l.clock.running
