use Rattle.std.proofs.Common.{◌≡◌}
use Rattle.outside_trials.proofs.tests.doors.open_somewhere.Given as goal

abbrev pub invariant-loop-port : goal.invariant-loop-port
invariant-loop-port g l = g.D.Door.out l.door ≡ g.D.Door.out l.fn.door
