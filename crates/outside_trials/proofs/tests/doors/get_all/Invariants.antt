use Rattle.std.proofs.Common.{◌≡◌}
use Rattle.outside_trials.proofs.tests.doors.get_all.Given as goal

abbrev pub invariant-reads : goal.invariant-reads
invariant-reads g l = g.D.Door.out l.door ≡ g.D.Door.out l.fn.door
