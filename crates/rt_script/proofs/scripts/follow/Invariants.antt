use Rattle.std.proofs.Common.{take}
use Rattle.rt_script.proofs.Following.{IsFollowing}
use Rattle.rt_script.proofs.scripts.follow.Given as goal

abbrev pub invariant-loop-number : goal.invariant-loop-number
invariant-loop-number g l = IsFollowing g.L.Meaning.meaning l.fn.core l.core (take l.number-index l.numbers)
