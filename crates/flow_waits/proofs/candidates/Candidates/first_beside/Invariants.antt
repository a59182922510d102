use Rattle.std.proofs.Common.{length}
use Rattle.flow_waits.specs.steps.Aside.{AreAside}
use Rattle.flow_waits.proofs.candidates.Candidates.first_beside.Given as goal

abbrev pub invariant-loop-number : goal.invariant-loop-number
invariant-loop-number g l = AreAside g.L.Meaning.meaning l.core l.self l.aside l.from

abbrev pub decreases-loop-number : goal.decreases-loop-number
decreases-loop-number g l = length l.self.ready
