use Rattle.std.proofs.Common.{◌≡◌, None}
use Rattle.std.specs.List.{slice_get}
use Rattle.flux_verify.proofs.FirstFaults.{first_without, none_copied}
use Rattle.flux_verify.proofs.verifying.first_fault.Goals as goal

pub returns-then-is_none : goal.returns-then-is_none
returns-then-is_none c =
    let plan = c.args.plan.now in
    let e : None ≡ slice_get plan.segments plan.target.0 = none_copied c.get.result (slice_get plan.segments plan.target.0) c.get.ensures c.if-is_none.ensures in
    first_without plan e
