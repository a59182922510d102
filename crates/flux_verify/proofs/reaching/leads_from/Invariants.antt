use Rattle.std.proofs.Common.{◌≡◌, take}
use Rattle.std.specs.List.{flat_map}
use Rattle.flux_plan.specs.Leading.{led_by}
use Rattle.flux_verify.proofs.reaching.leads_from.Given as goal

abbrev pub invariant-loop-instr : goal.invariant-loop-instr
invariant-loop-instr l = l.led ≡ flat_map led_by (take l.instr-index l.instr-items)
