use Rattle.std.proofs.Common.{◌<◌, length, refl, sym, subst, ◌∙◌}
use Rattle.flux_model.specs.declared.programs.SourceLine.{SourceLine}
use Rattle.flux_plan.specs.declared.plans.Plan.{Plan}
use Rattle.flux_plan.specs.Runs.{IsPlanOf}
use Rattle.flux_verify.specs.declared.verified.VerifyFault.{VerifyFault}
use Rattle.flux_verify.specs.Faults.{IsFaultOf}
use Rattle.flux_compile.specs.steps.Segments.{origins_of}
use Rattle.flux_compile.proofs.Apart.{all_in, apart_led, apart_target}
use Rattle.flux_compile.proofs.Walks.{segments_run_as_walks}
use Rattle.flux_compile.proofs.Kept.{ordered, same_locks, sized, verified, lines_below}
use Rattle.flux_compile.proofs.compiling.plan_of.Goals as goal

pub verify-requires : goal.verify-requires
verify-requires c =
    let kept = c.args.checked.now in
    record {
      sized = sized kept.program kept.sigs.nodes kept.order.nodes kept.sets.nodes kept.sizes kept.keeps (origins_of kept.program.sources)
          (record { target = c.args.line.now.target; segments = c.in_ok-share.field-0 }) (c.in_ok-share.ensures ∙ c.requires.made);
    }

pub unreachable-requires : goal.unreachable-requires
unreachable-requires c =
    let kept = c.args.checked.now in
    let plan : Plan = record { target = c.args.line.now.target; segments = c.in_ok-share.field-0 } in
    let below = lines_below kept.program kept.sigs.nodes kept.order.nodes kept.sets.nodes kept.sizes kept.keeps in
    let inside = all_in (λ (l : SourceLine). (l.node.0 < length kept.program.nodes) × (l.target.0 < length kept.program.nodes)) kept.program.sources c.args.line.now below c.requires.among in
    let none = verified kept.program kept.sigs.nodes kept.order.nodes kept.sets.nodes kept.sizes kept.keeps (origins_of kept.program.sources) plan (c.in_ok-share.ensures ∙ c.requires.made)
    (apart_led kept.program c.requires.apart) (apart_target kept.program c.requires.apart c.args.line.now c.requires.among) inside.1 in
    let fault = subst (λ (f : VerifyFault). IsFaultOf plan f) c.in-Err-Bad.field-0-is c.in-Err-Bad.ensures.fault in
    none.none c.in-Err-Bad.field-0-0.0 c.in-Err-Bad.field-0-1 fault.faulty

pub returns-in-Ok-clause-walks : goal.returns-in-Ok-clause-walks
returns-in-Ok-clause-walks c =
    let kept = c.args.checked.now in
    let target = c.args.line.now.target in
    let plan : Plan = record { target = target; segments = c.in_ok-share.field-0 } in
    let below = lines_below kept.program kept.sigs.nodes kept.order.nodes kept.sets.nodes kept.sizes kept.keeps in
    let inside = all_in (λ (l : SourceLine). (l.node.0 < length kept.program.nodes) × (l.target.0 < length kept.program.nodes)) kept.program.sources c.args.line.now below c.requires.among in
    subst (λ (own : Plan). IsPlanOf kept.program target own) (sym c.in-Ok.ensures.same)
    (segments_run_as_walks kept.program (origins_of kept.program.sources) kept.sets.nodes kept.order.nodes target plan refl (c.in_ok-share.ensures ∙ c.requires.made)
    (ordered kept.program kept.sigs.nodes kept.order.nodes kept.sets.nodes kept.sizes kept.keeps)
    (same_locks kept.program kept.sigs.nodes kept.order.nodes kept.sets.nodes kept.sizes kept.keeps)
    (apart_led kept.program c.requires.apart) (apart_target kept.program c.requires.apart c.args.line.now c.requires.among) inside.1)
