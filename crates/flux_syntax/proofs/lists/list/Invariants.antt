use Rattle.std.proofs.Common.{length}
use Rattle.flux_syntax.proofs.Onward.{Onward}
use Rattle.flux_syntax.proofs.lists.list.Given as goal

abbrev pub invariant-loop-between : goal.invariant-loop-between
invariant-loop-between g l = Onward g.R.Reader.read l.between l.fn.cursor l.items l.cursor

abbrev pub decreases-loop-between : goal.decreases-loop-between
decreases-loop-between g l = length l.cursor
