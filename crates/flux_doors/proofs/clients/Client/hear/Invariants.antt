use Rattle.std.proofs.Common.{◌≡◌}
use Rattle.flux_doors.proofs.clients.Client.hear.Given as goal

abbrev pub invariant-reads : goal.invariant-reads
invariant-reads g l = l.self.accepted ≡ l.fn.self.accepted
