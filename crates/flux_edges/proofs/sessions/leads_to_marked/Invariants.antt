use Rattle.std.proofs.Common.{◌≡◌, length}
use Rattle.std.specs.List.{list_any}
use Rattle.flux_edges.specs.steps.Marking.{mark_at}
use Rattle.flux_edges.proofs.sessions.leads_to_marked.Given as goal

abbrev pub invariant-loop-rest : goal.invariant-loop-rest
invariant-loop-rest l = list_any (λ next. mark_at l.marks next.0) l.fn.led ≡ list_any (λ next. mark_at l.marks next.0) l.rest

abbrev pub decreases-loop-rest : goal.decreases-loop-rest
decreases-loop-rest l = length l.rest
