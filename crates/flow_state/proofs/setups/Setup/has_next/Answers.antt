use Rattle.std.proofs.Common.{subst}
use Rattle.std.specs.Arc.{arc_value}
use Rattle.std.specs.List.{slice_get}
use Rattle.flux_plan.specs.declared.plans.Plan.{Plan}
use Rattle.flux_plan.specs.Moves.{IsReached}
use Rattle.flow_state.specs.steps.Places.{matches_by}
use Rattle.flow_state.proofs.AtPlaces.{one-plan}
use Rattle.flow_state.proofs.setups.Setup.has_next.Goals as goal

pub returns : goal.returns
returns g c =
    let matches = matches_by (g.L.Meaning.meaning (arc_value c.args.self.now.library))
    (arc_value c.args.self.now.program) in
    record {
      plan = c.plan.result.now;
      is_plan = c.plan.ensures;
      holds = c.has_next.ensures matches c.args.local.now
          (subst (λ (p : Plan). IsReached p matches c.args.local.now)
          (one-plan _ (slice_get c.args.self.now.items c.args.flow.0) _ _ c.requires.is_plan c.plan.ensures)
          c.requires.holds);
    }
