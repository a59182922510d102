use Rattle.std.proofs.Common.{◌-◌, length}
use Rattle.bencoding.proofs.DigitsRead.{AreSoFar}
use Rattle.bencoding.proofs.digits.read_digits.Given as goal

abbrev pub invariant-loop-at : goal.invariant-loop-at
invariant-loop-at l = AreSoFar l.bytes l.low l.high l.at l.number

abbrev pub decreases-loop-at : goal.decreases-loop-at
decreases-loop-at l = length l.bytes - l.at
