use Rattle.std.proofs.Common.{subst}
use Rattle.std.specs.Arc.{arc_value}
use Rattle.std.specs.List.{slice_get}
use Rattle.flux_plan.specs.declared.plans.Plan.{Plan}
use Rattle.flux_plan.specs.Moves.{IsReached}
use Rattle.flow_state.specs.steps.Places.{matches_by}
use Rattle.flow_state.proofs.AtPlaces.{one-plan}
use Rattle.flow_state.proofs.setups.Setup.next.Goals as goal

pub next-requires : goal.next-requires
next-requires g c = record {
  reached = rw (c.deref.ensures, c.deref-2.ensures)
      (subst (λ (p : Plan). IsReached p (matches_by (g.L.Meaning.meaning (arc_value c.args.self.now.library))
      (arc_value c.args.self.now.program)) c.args.local.now)
      (one-plan _ (slice_get c.args.self.now.items c.args.flow.0) _ _ c.requires.is_plan c.plan.ensures)
      c.requires.holds);
}

pub returns : goal.returns
returns g c = record {
  plan = c.plan.result.now;
  is_plan = c.plan.ensures;
  holds = rw (c.deref.ensures, c.deref-2.ensures) at c.next.ensures;
}
