use Rattle.std.proofs.Common.{◌≡◌, ℕ, List, length}
use Rattle.flow_core.specs.States.{IsKept}
use Rattle.flux_simulate.specs.steps.Ticking.{AllLast, Finishes, GoesFurther, Watches}
use Rattle.flux_simulate.proofs.simulating.finish_due.Given as goal

abbrev pub invariant-loop-run : goal.invariant-loop-run
invariant-loop-run g l = record {
  kept : IsKept g.L.Meaning.meaning l.core;
  further : GoesFurther l.fn.core l.core;
  finishes : Finishes g.L.Meaning.meaning l.core l.clock;
  watched : Watches g.L.Meaning.meaning l.core l.idlers;
  last : (costs : List ℕ) → AllLast costs l.fn.clock → AllLast costs l.clock;
  processors : l.clock.processors ≡ l.fn.clock.processors;
}

abbrev pub decreases-loop-run : goal.decreases-loop-run
decreases-loop-run g l = length l.clock.running
