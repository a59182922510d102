use Rattle.std.proofs.Common.{length}
use Rattle.flux_journal.specs.Spelled.{BeginEach, BeginsPut}
use Rattle.flux_journal.proofs.cursors.Cursor.puts.Given as goal

abbrev pub invariant-puts : goal.invariant-puts
invariant-puts l = BeginEach (BeginsPut l.program) l.initial.self.rest.now l.puts l.self.rest.now

abbrev pub decreases-puts : goal.decreases-puts
decreases-puts l = length l.self.rest.now
