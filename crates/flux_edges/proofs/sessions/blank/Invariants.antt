use Rattle.std.proofs.Common.{◌≡◌, false, replicate}
use Rattle.flux_edges.proofs.sessions.blank.Given as goal

abbrev pub invariant-loop : goal.invariant-loop
invariant-loop l = l.marks ≡ replicate l.counter false
