use Rattle.flux_simulate.specs.steps.Changes.{IsFirstOf}
use Rattle.flux_simulate.proofs.processors.first_to_stop.Given as goal

abbrev pub invariant-loop-place : goal.invariant-loop-place
invariant-loop-place l = IsFirstOf l.runs l.place l.first
