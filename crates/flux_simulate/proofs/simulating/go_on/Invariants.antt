use Rattle.std.proofs.Common.{◌≡◌, ◌+◌, ◌-◌, length}
use Rattle.flow_core.specs.States.{setup_in, IsKept}
use Rattle.flow_waits.proofs.Counting.{most_entries}
use Rattle.flux_simulate.specs.steps.Calls.{begun_count}
use Rattle.flux_simulate.specs.steps.Ticking.{Goes, GoesFurther, Watches}
use Rattle.flux_simulate.proofs.simulating.go_on.Given as goal

abbrev pub invariant-loop-flow : goal.invariant-loop-flow
invariant-loop-flow g l = record {
  kept : IsKept g.L.Meaning.meaning l.core;
  further : GoesFurther l.fn.core l.core;
  goes : Goes g.L.Meaning.meaning l.core l.clock;
  watched : Watches g.L.Meaning.meaning l.core l.idlers;
  ended : l.clock.ended ≡ l.fn.clock.ended;
  running : l.clock.running ≡ l.fn.clock.running;
  processors : l.clock.processors ≡ l.fn.clock.processors;
}

abbrev pub decreases-loop-flow : goal.decreases-loop-flow
decreases-loop-flow g l = (most_entries (setup_in g.L.Meaning.meaning l.fn.core) + length l.fn.core.setup.items)
    - (length l.core.entries + begun_count l.core)
