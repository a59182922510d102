use Rattle.std.proofs.Common.{◌≡◌, ◌++◌, take}
use Rattle.flux_model.proofs.programs.add_all.Given as goal

abbrev pub invariant-loop-number : goal.invariant-loop-number
invariant-loop-number l = l.led ≡ l.fn.led ++ take l.number-index l.numbers
