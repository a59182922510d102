use Rattle.std.proofs.Common.{◌≡◌, ◌+◌, ◌++◌, length, drop}
use Rattle.flux_compile.specs.steps.Segments.{arms_from, members_code}
use Rattle.flux_compile.proofs.bodies.arms_from.Given as goal

abbrev pub invariant-loop-case : goal.invariant-loop-case
invariant-loop-case l = record {
  made : l.arms ++ arms_from l.place (drop l.case-index l.cases) ≡ arms_from l.first l.cases;
  where_ : l.place + length (members_code (drop l.case-index l.cases)) ≡ l.first + length (members_code l.cases);
}
