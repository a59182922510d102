use Rattle.std.proofs.Common.{◌≡◌, take}
use Rattle.std.specs.List.{flat_map}
use Rattle.flux_plan.specs.Leading.{taken_by}
use Rattle.flux_verify.proofs.reaching.takes_of.Given as goal

abbrev pub invariant-loop-instr : goal.invariant-loop-instr
invariant-loop-instr l = l.takes ≡ flat_map taken_by (take l.instr-index l.instr-items)
