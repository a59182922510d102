use Rattle.std.proofs.Common.{◌≡◌, List, Bool, IfOk}
use Rattle.flux_edges.proofs.Marks.{marks_told}
use Rattle.flux_edges.proofs.sessions.needing.Goals as goal

pub returns-in-Ok : goal.returns-in-Ok
returns-in-Ok c = marks_told c.args.p.now c.in-Ok.order.nodes c.in-Ok.ensures.ordered c.marked.result (rw c.as_slice.ensures at c.marked.ensures)
