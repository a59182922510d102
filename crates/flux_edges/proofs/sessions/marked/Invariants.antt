use Rattle.std.proofs.Common.{◌≡◌, false, length, replicate, fold, take}
use Rattle.flux_edges.specs.steps.Marking.{put_mark}
use Rattle.flux_edges.proofs.sessions.marked.Given as goal

abbrev pub invariant-loop-number : goal.invariant-loop-number
invariant-loop-number l = l.marks ≡ fold (put_mark l.p.classes l.p.nodes) (replicate (length l.p.nodes) false) (take l.number-index l.order)
