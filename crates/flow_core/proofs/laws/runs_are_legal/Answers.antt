use Rattle.flow_core.proofs.LegalRuns.{runs_are_legal}
use Rattle.flow_core.proofs.laws.runs_are_legal.Goals as goal

pub returns : goal.returns
returns g c = runs_are_legal g.L.Meaning.meaning
