use Rattle.std.proofs.Common.{length}
use Rattle.flux_syntax.proofs.Onward.{Further}
use Rattle.flux_syntax.proofs.parsing.declarations.Given as goal

abbrev pub invariant-loop-cursor : goal.invariant-loop-cursor
invariant-loop-cursor l = Further l.fn.cursor l.decls l.cursor

abbrev pub decreases-loop-cursor : goal.decreases-loop-cursor
decreases-loop-cursor l = length l.cursor
