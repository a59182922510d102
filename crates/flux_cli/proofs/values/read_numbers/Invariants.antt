use Rattle.std.proofs.Common.{length}
use Rattle.flux_cli.specs.steps.Found.{AreSoFar}
use Rattle.flux_cli.proofs.values.read_numbers.Given as goal

abbrev pub invariant-numbers : goal.invariant-numbers
invariant-numbers l = AreSoFar l.list (length l.yielded) l.numbers
