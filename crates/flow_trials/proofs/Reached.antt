-- Places of a plan that a run reaches, one event after another.
use Rattle.std.proofs.Common.{◌≡◌, List, [], Some, None, IsSome, refl, subst, sym}
use Rattle.flux_values.specs.declared.values.Value.{Value}
use Rattle.flow_model.specs.declared.journals.Key.{Key}
use Rattle.flux_plan.specs.declared.plans.Plan.{Plan}
use Rattle.flux_plan.specs.declared.locals.Next.{Next}
use Rattle.flux_plan.specs.declared.locals.Next.TheVariants as nexts
use Rattle.flux_plan.specs.Machine.{Matches, Position, fresh}
use Rattle.flux_model.specs.declared.programs.NodeNo.{NodeNo}
use Rattle.flux_model.specs.declared.programs.ClassNo.{ClassNo}
use Rattle.flux_plan.specs.Moves.{next_in, called_in, IsEvent, IsReached, Advances}
use Rattle.flux_plan.proofs.Following.{reached-fresh, reached-advanced, reached-some, next-called}

-- what is neither a call nor nothing is an event
pub event-unless : (plan : Plan) (matches : Matches) (position : Position) (next : Next)
    → next_in plan matches position ≡ Some next
    → ((node : NodeNo) → next ≡ nexts.Call node → ⊥) → (next ≡ nexts.Ended → ⊥)
    → IsEvent (next_in plan matches position)
event-unless plan matches position next is call ended = subst IsEvent (sym is) (by next call ended)
  where
    by : (n : Next) → ((node : NodeNo) → n ≡ nexts.Call node → ⊥) → (n ≡ nexts.Ended → ⊥) → IsEvent (Some n)
    by (nexts.Take class mode) c e = tt
    by (nexts.Enter node) c e = tt
    by (nexts.Choose number) c e = tt
    by (nexts.Call node) c e = c node refl
    by (nexts.Exit node outcome) c e = tt
    by (nexts.Drop class) c e = tt
    by (nexts.End outcome) c e = tt
    by nexts.Ended c e = e refl

-- the place after an event is reached too
pub reached-behind : (plan : Plan) (matches : Matches) (old new : Position) (next : Next) → IsReached plan matches old
    → next_in plan matches old ≡ Some next → Advances plan matches old new → IsReached plan matches new
reached-behind plan matches old new next reached is made =
    reached-some plan reached.key matches reached.values reached.answers _ new
    (reached-advanced plan reached.key matches reached.values reached.answers reached.events old new next reached.has
    is made)

-- a node is called where a call comes next
pub called-some : (plan : Plan) (matches : Matches) (position : Position) (node : NodeNo)
    → next_in plan matches position ≡ Some (nexts.Call node) → IsSome (called_in plan position)
called-some plan matches position node is = subst IsSome (sym (next-called plan matches position node is)) refl

-- a flow that has just its values has reached its place
pub reached-start : (plan : Plan) (matches : Matches) (local : Position) (values : List Value) → local ≡ fresh values
    → IsReached plan matches local
reached-start plan matches local values is = subst (IsReached plan matches) (sym is)
    (reached-some plan any_key matches values [] [] (fresh values) (reached-fresh plan any_key matches values))
  where
    any_key : ClassNo → Key
    any_key class = record { class = class; id = None }
