use Rattle.std.proofs.Common.{◌≡◌, ◌++◌, map, take}
use Rattle.flux_plan.specs.declared.plans.Instr.TheVariants.{Go}
use Rattle.flux_compile.proofs.bodies.add_arm.Given as goal

abbrev pub invariant-loop-member : goal.invariant-loop-member
invariant-loop-member l = l.code ≡ l.fn.code ++ map Go (take l.member-index l.member-items)
