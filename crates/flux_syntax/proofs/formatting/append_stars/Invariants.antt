use Rattle.std.proofs.Common.{◌≡◌, ◌++◌, replicate}
use Rattle.flux_syntax.proofs.formatting.append_stars.Given as goal

abbrev pub invariant-loop : goal.invariant-loop
invariant-loop l = l.out ≡ l.fn.out ++ replicate l.counter 42
