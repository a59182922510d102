use Rattle.std.proofs.Common.{◌≡◌, ◌++◌, replicate}
use Rattle.flux_syntax.proofs.declarations.Param.spelling.Given as goal

abbrev pub invariant-loop : goal.invariant-loop
invariant-loop l = l.ty ≡ l.self.ty.text ++ replicate l.counter 42
