use Rattle.std.proofs.Common.{subst, sym}
use Rattle.std.specs.Prelude.{IsSome}
use Rattle.flux_plan.specs.Machine.{Position, state_in}
use Rattle.flux_plan.specs.Moves.{next_in}
use Rattle.flux_plan.proofs.ReachedPlaces.{reached_placed}
use Rattle.flux_plan.proofs.Answering.{answer_rests}
use Rattle.flux_plan.proofs.moving.take_answer.Goals as goal

pub answer-requires-clause-placed : goal.answer-requires-clause-placed
answer-requires-clause-placed c = rw c.as_plan.ensures.same (reached_placed _ c.as_plan.ensures.verified _ _ c.requires.reached.reached)

pub returns : goal.returns
returns c =
    let plan = c.args.plan.now in
    let placed = reached_placed plan c.as_plan.ensures.verified _ _ c.requires.reached.reached in
    let is = rw c.as_plan.ensures.same at c.answer.ensures in
    record {
      new_ = is;
      rests = λ matches. subst (λ (p : Position). IsSome (next_in plan matches p)) (sym is)
          (answer_rests plan c.as_plan.ensures.verified matches (state_in plan c.args.local.now) c.args.answer.now placed c.requires.call);
    }
