-- Places that follow each other are reached, where the first one is.
use Rattle.std.proofs.Common.{◌≡◌, List, [], Some, None, ap, ◌∙◌}
use Rattle.flux_values.specs.declared.values.Value.{Value}
use Rattle.flux_values.specs.declared.answers.Answer.{Answer}
use Rattle.flux_model.specs.declared.programs.NodeNo.{NodeNo}
use Rattle.flux_model.specs.declared.programs.ClassNo.{ClassNo}
use Rattle.flow_model.specs.declared.journals.Key.{Key}
use Rattle.flux_plan.specs.declared.plans.Plan.{Plan}
use Rattle.flux_plan.specs.declared.locals.Next.{Next}
use Rattle.flux_plan.specs.declared.locals.Next.TheVariants.{Call}
use Rattle.flux_plan.specs.Machine.{Matches, Position, fresh}
use Rattle.flux_plan.specs.Moves.{next_in, IsReached, Advances, IsAnswered}
use Rattle.flux_plan.proofs.Following.{reached-fresh, reached-advanced, reached-answered, reached-some, next-called}

no_key : ClassNo → Key
no_key class = record { class = class; id = None }

pub begins_reached : (plan : Plan) (matches : Matches) (values : List Value) → IsReached plan matches (fresh values)
begins_reached plan matches values = reached-some plan no_key matches values [] [] (fresh values) (reached-fresh plan no_key matches values)

pub advance_reached : (plan : Plan) (matches : Matches) (old new : Position) (next : Next) → next_in plan matches old ≡ Some next → Advances plan matches old new → IsReached plan matches old → IsReached plan matches new
advance_reached plan matches old new next is made from =
    let has = reached-advanced plan from.key matches from.values from.answers from.events old new next from.has is made in
    reached-some plan from.key matches from.values from.answers _ new has

pub answer_reached : (plan : Plan) (matches : Matches) (old new : Position) (next : Next) (node : NodeNo) (answer : Answer) → next_in plan matches old ≡ Some next → next ≡ Call node → IsAnswered plan old answer new → IsReached plan matches old → IsReached plan matches new
answer_reached plan matches old new next node answer is same made from =
    let called = next-called plan matches old node (is ∙ ap Some same) in
    let has = reached-answered plan from.key matches from.values from.answers from.events old new node answer from.has called made in
    reached-some plan from.key matches from.values _ _ new has
