use Rattle.std.proofs.Common.{◌≡◌, ◌≤◌, ◌++◌, length, drop}
use Rattle.std.specs.Fmt.{decimal}
use Rattle.flux_journal.proofs.digits.write_digits.Given as goal

abbrev pub invariant-loop-left : goal.invariant-loop-left
invariant-loop-left l =
    (l.start ≤ 20) × (length (decimal l.left) ≤ l.start) × (decimal l.left ++ drop l.start l.bytes ≡ decimal l.number ++ drop 20 l.fn.bytes)

abbrev pub decreases-loop-left : goal.decreases-loop-left
decreases-loop-left l = l.left
