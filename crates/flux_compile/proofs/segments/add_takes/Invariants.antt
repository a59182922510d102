use Rattle.std.proofs.Common.{◌≡◌, ◌++◌, map, take}
use Rattle.flux_compile.specs.steps.Segments.{taking}
use Rattle.flux_compile.proofs.segments.add_takes.Given as goal

abbrev pub invariant-loop-hold : goal.invariant-loop-hold
invariant-loop-hold l = l.code ≡ l.fn.code ++ map taking (take l.hold-index l.holds)
