use Rattle.flow_core.proofs.LegalRuns.{steps_are_moves, steps_at_once_are_moves, finishes_are_moves}
use Rattle.flow_core.proofs.laws.calls_are_moves.Goals as goal

pub returns-clause-steps : goal.returns-clause-steps
returns-clause-steps g c = steps_are_moves g.L.Meaning.meaning

pub returns-clause-at_once : goal.returns-clause-at_once
returns-clause-at_once g c = steps_at_once_are_moves g.L.Meaning.meaning

pub returns-clause-finishes : goal.returns-clause-finishes
returns-clause-finishes g c = finishes_are_moves g.L.Meaning.meaning
