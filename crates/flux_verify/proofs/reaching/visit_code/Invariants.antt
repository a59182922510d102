use Rattle.std.proofs.Common.{◌≡◌, take}
use Rattle.std.specs.List.{flat_map}
use Rattle.flux_plan.specs.Leading.{led_by}
use Rattle.flux_model.specs.Visits.{with_all}
use Rattle.flux_verify.proofs.reaching.visit_code.Given as goal

abbrev pub invariant-loop-instr : goal.invariant-loop-instr
invariant-loop-instr l = l.visits ≡ with_all l.fn.visits (flat_map led_by (take l.instr-index l.code))
