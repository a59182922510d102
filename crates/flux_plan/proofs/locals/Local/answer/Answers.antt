use Rattle.std.proofs.Common.{◌≡◌, subst, sym}
use Rattle.std.specs.Prelude.{IsSome}
use Rattle.flux_plan.specs.Machine.{Position, fresh}
use Rattle.flux_plan.specs.Moves.{called_in}
use Rattle.flux_plan.proofs.ReachedPlaces.{begins_without_call}
use Rattle.flux_plan.proofs.locals.Local.answer.Goals as goal

pub unreachable-requires : goal.unreachable-requires
unreachable-requires c =
    let h = c.self.view_is in
    let is : fresh c.self.inside.stack.values ≡ c.args.self.now = rw c.if-self.false at h in
    begins_without_call c.args.plan.now c.requires.verified c.self.inside.stack.values
    (subst (λ (p : Position). IsSome (called_in c.args.plan.now p)) (sym is) c.requires.call)
