use Rattle.std.proofs.Common.{◌≡◌, ◌++◌, drop}
use Rattle.flux_compile.specs.steps.Segments.{segments_from, segments_of}
use Rattle.flux_compile.proofs.segments.segments_of.Given as goal

abbrev pub invariant-loop-number : goal.invariant-loop-number
invariant-loop-number l =
    l.segments ++ segments_from l.origins l.sets l.number (drop l.number l.nodes) ≡ segments_of l.origins l.sets l.nodes
