use Rattle.std.proofs.Common.{◌≡◌, ◌++◌, drop}
use Rattle.flux_compile.specs.steps.Segments.{members_code}
use Rattle.flux_compile.proofs.bodies.add_cases.Given as goal

abbrev pub invariant-loop-case : goal.invariant-loop-case
invariant-loop-case l = l.code ++ members_code (drop l.case-index l.cases) ≡ l.fn.code ++ members_code l.cases
