use Rattle.std.proofs.Common.{◌≡◌, ◌++◌, map}
use Rattle.flux_compile.specs.steps.Segments.{dropping}
use Rattle.flux_compile.proofs.segments.add_drops.Given as goal

abbrev pub invariant-loop-hold : goal.invariant-loop-hold
invariant-loop-hold l = l.code ≡ l.fn.code ++ map dropping (map (λ hold. hold.now) l.yielded)
