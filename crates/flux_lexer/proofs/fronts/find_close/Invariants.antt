use Rattle.flux_lexer.proofs.Closing.{Sought}
use Rattle.flux_lexer.proofs.fronts.find_close.Given as goal

abbrev pub invariant-loop-at : goal.invariant-loop-at
invariant-loop-at l = Sought l.text l.rest l.at
