use Rattle.std.proofs.Common.{◌≡◌, ◌+◌, ◌-◌, false, [], length}
use Rattle.flow_core.specs.States.{setup_in, IsKept}
use Rattle.flow_waits.proofs.Counting.{most_entries}
use Rattle.flux_simulate.specs.steps.Ticking.{one_if, AllLast, Rests, GoesFurther, Watches}
use Rattle.flux_simulate.proofs.simulating.all_ticks.Given as goal

abbrev pub invariant-ticks : goal.invariant-ticks
invariant-ticks g l = record {
  kept : IsKept g.L.Meaning.meaning l.core;
  further : GoesFurther l.fn.core l.core;
  rests : Rests g.L.Meaning.meaning l.core l.clock;
  watched : Watches g.L.Meaning.meaning l.core l.idlers;
  last : AllLast l.costs l.clock;
  processors : l.clock.processors ≡ l.fn.clock.processors;
  over : l.more ≡ false → l.clock.running ≡ [];
}

abbrev pub decreases-ticks : goal.decreases-ticks
decreases-ticks g l =
    (most_entries (setup_in g.L.Meaning.meaning l.fn.core) - length l.core.entries) + one_if l.more
