use Rattle.std.proofs.Common.{◌≡◌, length}
use Rattle.std.specs.List.{list_any}
use Rattle.flux_edges.specs.Sessions.{is_session}
use Rattle.flux_edges.proofs.sessions.declares_session.Given as goal

abbrev pub invariant-loop-rest : goal.invariant-loop-rest
invariant-loop-rest l = list_any (is_session l.classes) l.fn.holds ≡ list_any (is_session l.classes) l.rest

abbrev pub decreases-loop-rest : goal.decreases-loop-rest
decreases-loop-rest l = length l.rest
