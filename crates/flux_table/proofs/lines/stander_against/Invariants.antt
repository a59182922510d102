use Rattle.flux_table.proofs.Standing.{IsSearched}
use Rattle.flux_table.proofs.lines.stander_against.Given as goal

abbrev pub invariant-loop-waiter : goal.invariant-loop-waiter
invariant-loop-waiter l = IsSearched l.line l.flow.0 l.mode l.waiter-index l.lowest
