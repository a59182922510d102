use Rattle.std.proofs.Common.{◌≡◌, take}
use Rattle.flux_commands.proofs.rules.copy_sizes.Given as goal

abbrev pub invariant-loop-size : goal.invariant-loop-size
invariant-loop-size l = l.copies ≡ take l.size-index l.sizes
