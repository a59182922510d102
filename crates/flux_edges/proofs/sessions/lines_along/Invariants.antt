use Rattle.std.proofs.Common.{◌≡◌, None, length}
use Rattle.flux_edges.specs.steps.Marking.{mark_at, lines_along}
use Rattle.flux_edges.proofs.sessions.lines_along.Given as goal

abbrev pub invariant-loop-rest : goal.invariant-loop-rest
invariant-loop-rest l = lines_along (mark_at l.marks) None l.fn.lines l.fn.sites ≡ lines_along (mark_at l.marks) l.place l.rest l.left

abbrev pub decreases-loop-rest : goal.decreases-loop-rest
decreases-loop-rest l = length l.rest
