use Rattle.std.proofs.Common.{length}
use Rattle.flux_journal.specs.steps.Lines.{AreReadSoFar}
use Rattle.flux_journal.proofs.journals.add_entries.Given as goal

abbrev pub invariant-lines : goal.invariant-lines
invariant-lines l = AreReadSoFar l.reader.program.now l.text l.rest l.entries l.first l.number

abbrev pub decreases-lines : goal.decreases-lines
decreases-lines l = length l.rest
