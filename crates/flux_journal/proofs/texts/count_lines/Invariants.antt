use Rattle.std.proofs.Common.{length}
use Rattle.flux_journal.specs.steps.Lines.{AreCountedSoFar}
use Rattle.flux_journal.proofs.texts.count_lines.Given as goal

abbrev pub invariant-lines : goal.invariant-lines
invariant-lines l = AreCountedSoFar l.text l.rest l.count

abbrev pub decreases-lines : goal.decreases-lines
decreases-lines l = length l.rest
