use Rattle.std.proofs.Common.{take}
use Rattle.flux_compile.proofs.Plans.{ArePlans}
use Rattle.flux_compile.proofs.compiling.compile.Given as goal

abbrev pub invariant-loop-line : goal.invariant-loop-line
invariant-loop-line l = ArePlans l.checked.program l.segments (take l.line-index l.lines) l.plans
