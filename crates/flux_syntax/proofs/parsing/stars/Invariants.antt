use Rattle.std.proofs.Common.{length}
use Rattle.flux_syntax.proofs.Onward.{Stars}
use Rattle.flux_syntax.proofs.parsing.stars.Given as goal

abbrev pub invariant-loop-stars : goal.invariant-loop-stars
invariant-loop-stars l = Stars l.fn.cursor l.stars l.cursor

abbrev pub decreases-loop-stars : goal.decreases-loop-stars
decreases-loop-stars l = length l.cursor
