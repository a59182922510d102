use Rattle.std.proofs.Common.{◌≡◌, drop}
use Rattle.flux_syntax.specs.Least.{soonest}
use Rattle.flux_check.specs.steps.Seen.{constraints_with, and_scopes, crossed_by}
use Rattle.flux_check.proofs.scopes.see_all.Given as goal

abbrev pub invariant-loop-constraint : goal.invariant-loop-constraint
invariant-loop-constraint l =
    (soonest l.fn.place (crossed_by l.fn.seen (constraints_with l.node l.fn.constraints)) ≡ soonest l.place (crossed_by l.seen (constraints_with l.node (drop l.constraint-index l.constraints))))
    × (and_scopes l.fn.seen (constraints_with l.node l.fn.constraints) ≡ and_scopes l.seen (constraints_with l.node (drop l.constraint-index l.constraints)))
