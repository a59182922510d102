use Rattle.std.proofs.Common.{List, ◌≡◌, sym, subst, ◌∙◌, take_all, arith}
use Rattle.std.specs.List.{AllByRecursion}
use Rattle.flux_model.specs.declared.programs.SourceLine.{SourceLine}
use Rattle.flux_plan.specs.declared.plans.Plan.{Plan}
use Rattle.flux_plan.specs.declared.plans.Segment.{Segment}
use Rattle.flux_plan.specs.Runs.{AreLinePlans}
use Rattle.flux_compile.specs.steps.Segments.{origins_of, segments_of}
use Rattle.flux_compile.proofs.Plans.{no_plans, next_plan, share_segments, empty_there}
use Rattle.flux_compile.proofs.Kept.{few_holds, few_parts, short, lines_below}
use Rattle.flux_compile.proofs.compiling.compile.Goals as goal

pub segments_of-requires-clause-short : goal.segments_of-requires-clause-short
segments_of-requires-clause-short c =
    let kept = c.args.checked.now in
    rw c.as_slice.ensures (short kept.program kept.sigs.nodes kept.order.nodes kept.sets.nodes kept.sizes kept.keeps)

pub segments_of-requires-clause-few : goal.segments_of-requires-clause-few
segments_of-requires-clause-few c =
    let kept = c.args.checked.now in
    rw c.as_slice-sets.ensures (few_holds kept.program kept.sigs.nodes kept.order.nodes kept.sets.nodes kept.sizes kept.keeps)

pub segments_of-requires-clause-parts : goal.segments_of-requires-clause-parts
segments_of-requires-clause-parts c =
    let kept = c.args.checked.now in
    rw c.as_slice.ensures (few_parts kept.program kept.sigs.nodes kept.order.nodes kept.sets.nodes kept.sizes kept.keeps)

pub loop-line-init : goal.loop-line-init
loop-line-init c = rw c.new-plans.ensures (no_plans c.args.checked.now.program c.in_ok-segments.segments)

pub plan_of-requires-clause-among : goal.plan_of-requires-clause-among
plan_of-requires-clause-among c = rw (← c.as_slice-lines.ensures) (c.loop-line.line-index, c.loop-line-test.true, sym c.line-item.is)

pub loop-line-preserved : goal.loop-line-preserved
loop-line-preserved c =
    rw c.in_ok-add.ensures.added
    (next_plan c.args.checked.now.program c.in_ok-segments.segments c.as_slice-lines.result.now c.loop-line.line-index c.line-item.result c.loop-line.plans c.in_ok-plan_of.field-0
    (omega arith) c.line-item.is c.loop-line.invariant c.in_ok-plan_of.ensures.walks c.in_ok-plan_of.ensures.shared)

pub returns-clause-plans : goal.returns-clause-plans
returns-clause-plans c =
    subst (λ (lines : List SourceLine). AreLinePlans c.args.checked.now.program lines c.loop-line.plans)
    (take_all c.loop-line.line-index c.as_slice-lines.result.now (omega arith) ∙ c.as_slice-lines.ensures)
    c.loop-line.invariant.own

pub returns-clause-shared : goal.returns-clause-shared
returns-clause-shared c = share_segments c.in_ok-segments.segments c.loop-line.plans c.loop-line.invariant.shared

pub returns-clause-empty : goal.returns-clause-empty
returns-clause-empty c =
    let kept = c.args.checked.now in
    let same : c.in_ok-segments.segments ≡ segments_of (origins_of kept.program.sources) kept.sets.nodes kept.program.nodes =
    c.in_ok-segments.ensures
    ∙ rw (c.in_ok-origins.ensures, c.as_slice-lines.ensures, c.as_slice-sets.ensures, c.as_slice.ensures) at c.in_ok-code.ensures in
    empty_there kept.program kept.sets.nodes c.loop-line.plans
    (subst (λ (segments : List Segment). AllByRecursion (λ (plan : Plan). plan.segments ≡ segments) c.loop-line.plans) same c.loop-line.invariant.shared)
    (lines_below kept.program kept.sigs.nodes kept.order.nodes kept.sets.nodes kept.sizes kept.keeps)
