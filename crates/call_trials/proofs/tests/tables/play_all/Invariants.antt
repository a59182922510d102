use Rattle.call_trials.specs.Stood.{HaveStood}
use Rattle.call_trials.proofs.tests.tables.play_all.Given as goal

abbrev pub invariant-loop-line : goal.invariant-loop-line
invariant-loop-line g l = HaveStood l.table l.stood.items
