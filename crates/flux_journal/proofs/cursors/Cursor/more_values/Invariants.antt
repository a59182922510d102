use Rattle.std.proofs.Common.{length}
use Rattle.flux_journal.specs.steps.Reading.{AreAdded}
use Rattle.flux_journal.proofs.cursors.Cursor.more_values.Given as goal

abbrev pub invariant-values : goal.invariant-values
invariant-values l = AreAdded l.initial.values l.values l.initial.self.rest.now l.self.rest.now

abbrev pub decreases-values : goal.decreases-values
decreases-values l = length l.self.rest.now
