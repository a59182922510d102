use Rattle.std.proofs.Common.{◌≡◌, take}
use Rattle.flux_compile.specs.steps.Segments.{origins_of}
use Rattle.flux_compile.proofs.segments.origins_of.Given as goal

abbrev pub invariant-loop-line : goal.invariant-loop-line
invariant-loop-line l = l.origins ≡ origins_of (take l.line-index l.lines)
