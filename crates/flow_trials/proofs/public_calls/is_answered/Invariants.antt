use Rattle.flow_model.specs.Matching.{patterns_match}
use Rattle.flux_plan.specs.Moves.{IsReached}
use Rattle.flow_trials.proofs.public_calls.is_answered.Given as goal

abbrev pub invariant-loop-event : goal.invariant-loop-event
invariant-loop-event g l =
    IsReached l.plan (patterns_match (g.L.Meaning.meaning l.library) l.program.predicates) l.local
