use Rattle.std.proofs.Common.{◌-◌, length}
use Rattle.flux_lexer.proofs.Turns.{SoFar}
use Rattle.flux_lexer.proofs.reading.tokens.Given as goal

abbrev pub invariant-loop-lexed : goal.invariant-loop-lexed
invariant-loop-lexed l = SoFar l.text l.lexed.tokens l.lexed.at

abbrev pub decreases-loop-lexed : goal.decreases-loop-lexed
decreases-loop-lexed l = length l.text - l.lexed.at
