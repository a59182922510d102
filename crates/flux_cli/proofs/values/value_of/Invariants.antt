use Rattle.std.proofs.Common.{length}
use Rattle.flux_cli.proofs.Numbers.{AreRead}
use Rattle.flux_cli.proofs.values.value_of.Given as goal

abbrev pub invariant-loop-rest : goal.invariant-loop-rest
invariant-loop-rest l = AreRead l.most l.digits l.rest l.number

abbrev pub decreases-loop-rest : goal.decreases-loop-rest
decreases-loop-rest l = length l.rest
