use Rattle.std.proofs.Common.{subst}
use Rattle.flux_plan.specs.steps.Turns.{StandsAt}
use Rattle.flux_plan.proofs.Turning.{none_chosen, handle_fits}
use Rattle.flux_plan.proofs.machines.Machine.turn.Goals as goal

pub handle_turn-requires : goal.handle_turn-requires
handle_turn-requires g c =
    handle_fits _ c.requires.verified c.requires.sized _ _ _ _
    (subst (StandsAt c.args.self.now.plan.now c.args.frame.now.node.0 c.args.place c.at-exit.result.0) c.in-Handle.is c.at-exit.ensures)

pub returns-in-None : goal.returns-in-None
returns-in-None g c =
    none_chosen c.args.self.now.plan.now (g.L.Meaning.meaning c.args.self.now.library.now) c.args.self.now.program.now.predicates _ _ c.in-Choose.arms c.args.frame.now _ _ c.args.outcome
    (subst (StandsAt c.args.self.now.plan.now c.args.frame.now.node.0 c.args.place c.at-exit.result.0) c.in-Choose.is c.at-exit.ensures)
    (let h = c.in-None.ensures in rw c.as_slice.ensures at h)
