use Rattle.flux_faults.proofs.Counting.{Counted}
use Rattle.flux_faults.proofs.places.place.Given as goal

abbrev pub invariant-loop-byte : goal.invariant-loop-byte
invariant-loop-byte l = Counted l.place.line l.place.column l.byte-index l.text
