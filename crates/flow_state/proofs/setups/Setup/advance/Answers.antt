use Rattle.std.proofs.Common.{subst}
use Rattle.std.specs.Arc.{arc_value}
use Rattle.flux_plan.specs.declared.plans.Plan.{Plan}
use Rattle.flux_plan.specs.Moves.{IsReached}
use Rattle.flux_plan.proofs.Acting.{on_ok}
use Rattle.flow_state.specs.steps.Places.{matches_by}
use Rattle.flow_state.proofs.AtPlaces.{one-plan}
use Rattle.std.specs.List.{slice_get}
use Rattle.flow_state.proofs.setups.Setup.advance.Goals as goal

pub advance-requires-clause-reached : goal.advance-requires-clause-reached
advance-requires-clause-reached g c =
    rw (c.deref.ensures, c.deref-2.ensures)
    (subst (λ (p : Plan). IsReached p (matches_by (g.L.Meaning.meaning (arc_value c.args.self.now.library))
    (arc_value c.args.self.now.program)) c.args.local.now)
    (one-plan _ (slice_get c.args.self.now.items c.args.flow.0) _ _ c.requires.is_plan c.plan.ensures)
    c.requires.holds.reached)

pub returns-clause-ok : goal.returns-clause-ok
returns-clause-ok g c =
    on_ok c.advance.result c.advance.ensures.ok
    (λ made. record {
      plan = c.plan.result.now;
      is_plan = c.plan.ensures;
      holds = rw (c.deref.ensures, c.deref-2.ensures) at made;
    })
