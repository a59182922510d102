use Rattle.std.proofs.Common.{length}
use Rattle.flux_outside.proofs.Writes.{SoFar}
use Rattle.flux_outside.proofs.writing.write_all.Given as goal

abbrev pub invariant-loop-rest : goal.invariant-loop-rest
invariant-loop-rest g l = SoFar (g.O.Sink.seen l.fn.out) (g.O.Sink.seen l.out) l.bytes l.rest

abbrev pub decreases-loop-rest : goal.decreases-loop-rest
decreases-loop-rest g l = length l.rest
