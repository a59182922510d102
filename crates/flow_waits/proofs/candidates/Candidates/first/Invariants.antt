use Rattle.std.proofs.Common.{length}
use Rattle.flow_core.specs.States.{setup_in}
use Rattle.flow_waits.specs.steps.Covers.{Covers}
use Rattle.flow_waits.proofs.candidates.Candidates.first.Given as goal

abbrev pub invariant-loop-number : goal.invariant-loop-number
invariant-loop-number g l = Covers (setup_in g.L.Meaning.meaning l.core) l.core.entries l.self l.from

abbrev pub decreases-loop-number : goal.decreases-loop-number
decreases-loop-number g l = length l.self.ready
