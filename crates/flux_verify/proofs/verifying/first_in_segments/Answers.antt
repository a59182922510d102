use Rattle.std.proofs.Common.{◌≡◌, ◌≤◌, ℕ, Option, Some, length, ap, subst, arith}
use Rattle.std.specs.List.{slice_get}
use Rattle.flux_plan.specs.Faulty.{IsFaultIn}
use Rattle.flux_verify.specs.steps.Checks.{IsFirstPlace}
use Rattle.flux_verify.proofs.Checking.{item_stands}
use Rattle.flux_verify.proofs.FirstFaults.{first_here, none_here, none_at_all}
use Rattle.flux_verify.proofs.verifying.first_in_segments.Goals as goal

pub returns-in-Some : goal.returns-in-Some
returns-in-Some c =
    let plan = c.args.plan.now in let own = c.loop-segment.invariant in let node = c.loop-segment.node in let segment = c.segment-item.result in
    let at : slice_get plan.segments node ≡ Some segment = item_stands c.as_slice-segment-items.result.now plan.segments c.loop-segment.segment-index node segment c.as_slice-segment-items.ensures own.counted c.loop-segment-test.true c.segment-item.is in
    first_here plan node segment c.in-Some.at at own.none (subst (λ (o : Option ℕ). IsFirstPlace (λ place. IsFaultIn plan node place (Some segment)) o) c.in-Some.is c.in_ok-at.ensures)

pub loop-segment-preserved : goal.loop-segment-preserved
loop-segment-preserved c =
    let plan = c.args.plan.now in let own = c.loop-segment.invariant in let node = c.loop-segment.node in let segment = c.segment-item.result in
    let at : slice_get plan.segments node ≡ Some segment = item_stands c.as_slice-segment-items.result.now plan.segments c.loop-segment.segment-index node segment c.as_slice-segment-items.ensures own.counted c.loop-segment-test.true c.segment-item.is in
    record {
      counted = omega (arith, own.counted);
      none = none_here plan node segment at own.none (subst (λ (o : Option ℕ). IsFirstPlace (λ place. IsFaultIn plan node place (Some segment)) o) c.in_default.is c.in_ok-at.ensures);
    }

pub returns : goal.returns
returns c =
    let plan = c.args.plan.now in let own = c.loop-segment.invariant in
    let size = ap length c.as_slice-segment-items.ensures in
    let end : length plan.segments ≤ c.loop-segment.node = omega (arith, own.counted, c.loop-segment-test.false, size) in
    none_at_all plan c.loop-segment.node end c.requires.target own.none

pub fault_in-requires-clause-stands : goal.fault_in-requires-clause-stands
fault_in-requires-clause-stands c =
    let plan = c.args.plan.now in let own = c.loop-segment.invariant in let node = c.loop-segment.node in let segment = c.segment-item.result in
    item_stands c.as_slice-segment-items.result.now plan.segments c.loop-segment.segment-index node segment c.as_slice-segment-items.ensures own.counted c.loop-segment-test.true c.segment-item.is
