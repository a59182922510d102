use Rattle.std.proofs.Common.{◌≡◌, vec_len}
use Rattle.rt_event.proofs.parts.parts.Given as goal

abbrev pub invariant-loop-number : goal.invariant-loop-number
invariant-loop-number g l = vec_len l.parts ≡ l.number
