-- The walk of a node on values: what a flow does there, given the answers of the calls that it makes.
use Rattle.std.specs.Prelude.{ℕ, Bool, List, [], ◌∷◌, ◌++◌, map, reverse, Option, Some, None}
use Rattle.flux_values.specs.declared.values.Value.{Value}
use Rattle.flux_values.specs.declared.answers.Answer.{Answer}
use Rattle.flux_values.specs.declared.answers.CallResult.{CallResult}
use Rattle.flux_values.specs.declared.answers.CallResult.TheVariants as results
use Rattle.flux_model.specs.declared.programs.Node.{Node}
use Rattle.flux_model.specs.declared.programs.NodeNo.{NodeNo}
use Rattle.flux_model.specs.declared.programs.ClassNo.{ClassNo}
use Rattle.flux_model.specs.declared.programs.Hold.{Hold}
use Rattle.flux_model.specs.declared.programs.Case.{Case}
use Rattle.flux_model.specs.declared.programs.HandleArm.{HandleArm}
use Rattle.flux_model.specs.declared.programs.Body.{Body}
use Rattle.flux_model.specs.declared.programs.Body.TheVariants.{Concrete, Abstract}
use Rattle.flow_model.specs.declared.journals.Key.{Key}
use Rattle.flow_model.specs.declared.journals.Outcome.{Outcome}
use Rattle.flow_model.specs.declared.journals.Outcome.TheVariants.{Good, Over, Bad}
use Rattle.flow_model.specs.declared.journals.Event.{Event}
use Rattle.flow_model.specs.declared.journals.Event.TheVariants as events
use Rattle.flux_model.specs.Nested.{Rule, through}
use Rattle.flux_model.specs.Locks.{Holds}
use Rattle.flow_model.specs.Matching.{first_case, handler_for}

-- what a walk is given besides nodes: the keys of classes, the locks of nodes, and which patterns match which values
pub record Given : Type 0 where
  pub key : ClassNo → Key
  pub locks : Holds
  pub matches : List (Option ℕ) → List Value → Bool

-- how a finished walk ended: its outcome, its values, and the answers that are left
pub record Ended : Type 0 where
  pub outcome : Outcome
  pub values : List Value
  pub left : List Answer

-- where a walk stopped: it is finished; or no answer was left for a call, and it stops before that; or there is no
-- such node
pub data Stop : Type 0 where
  finished : Ended → Stop
  before_call : NodeNo → List Value → Stop
  nowhere : Stop

-- a walk's events, and where it stopped
pub record Walked : Type 0 where
  pub events : List Event
  pub stop : Stop

-- what a node does on values, with the answers that are left
abbrev pub Walking : Type 0
Walking = List Value → List Answer → Walked

-- ---- one thing after another

-- nothing, where there is no such node
abbrev pub lost : Walked
lost = record { events = []; stop = nowhere }

-- events, and then this end
abbrev pub done : List Event → Ended → Walked
done happened ended = record { events = happened; stop = finished ended }

-- what follows where a walk is finished; an unfinished walk stays
abbrev pub following : (Ended → Walked) → Stop → Walked
following next (finished ended) = next ended
following next (before_call node args) = record { events = []; stop = before_call node args }
following next nowhere = lost

abbrev pub then : Walked → (Ended → Walked) → Walked
then walked next =
    let more = following next walked.stop in
    record { events = walked.events ++ more.events; stop = more.stop }

-- an end with an outcome that isn't good has no values
abbrev pub ended_with : Outcome → List Answer → Ended
ended_with outcome left = record { outcome = outcome; values = []; left = left }

-- ---- bodies

-- a call's answer ends the body: with its values, or with its code
abbrev pub ended_by : CallResult → List Answer → Ended
ended_by (results.Good values) left = record { outcome = Good; values = values; left = left }
ended_by (results.Bad code) left = ended_with (Bad code) left

-- the body of a concrete node is one call with the first answer; where none is left, the walk stops before it
abbrev pub call : NodeNo → Walking
call node args [] = record { events = []; stop = before_call node args }
call node args (answer ∷ left) =
    done (events.Call (record { node = node; args = args; answer = answer }) ∷ [])
    (ended_by answer.result left)

-- where all went well so far, one thing more; any other outcome stays
abbrev pub while_good : Walking → Outcome → List Value → List Answer → Walked
while_good next Good values left = next values left
while_good next Over values left = done [] (ended_with Over left)
while_good next (Bad code) values left = done [] (ended_with (Bad code) left)

abbrev pub go_on : Walking → Ended → Walked
go_on next ended = while_good next ended.outcome ended.values ended.left

-- the members, one after another: the first has the inputs, each later one the values of the one before; a member that
-- doesn't end well ends the body
abbrev pub members_walk : (ℕ → Walking) → List NodeNo → Walking
members_walk walks [] values left =
    done [] (record { outcome = Good; values = values; left = left })
members_walk walks (member ∷ members) values left =
    then (walks member.0 values left) (go_on (members_walk walks members))

-- `choose` with the place of the case that is taken, and its members; where there is none, there is no event, and the
-- outcome is failure with code 256
abbrev pub case_walk : (ℕ → Walking) → Option (ℕ × Case) → Walking
case_walk walks None values left = done [] (ended_with (Bad 256) left)
case_walk walks (Some (place, case)) values left =
    let walked = members_walk walks case.members values left in
    record { events = events.Choose place ∷ walked.events; stop = walked.stop }

-- a concrete node's body is a call; an abstract node's the first case, counted from 1, whose patterns all match
abbrev pub body_walk : Given → (ℕ → Walking) → Body → NodeNo → Walking
body_walk given walks (Concrete name) node values left = call node values left
body_walk given walks (Abstract cases) node values left =
    case_walk walks (first_case (λ case. given.matches case.patterns values) 1 cases) values left

-- ---- nodes

-- after a finished body: `exit` with its outcome, then the drops in reverse
abbrev pub leaving : (ClassNo → Key) → List Hold → NodeNo → Ended → Walked
leaving key holds node ended = done
    (events.Exit node ended.outcome ∷ map (λ hold. events.Drop (key hold.class)) (reverse holds))
    ended

-- the takes, `enter`, the body, `exit` and the drops
abbrev pub enclosed : (ClassNo → Key) → List Hold → NodeNo → Walked → Walked
enclosed key holds node body =
    let left = then body (leaving key holds node) in
    record {
      events = map (λ hold. events.Take (key hold.class) hold.mode) holds
          ++ events.Enter node ∷ left.events;
      stop = left.stop;
    }

-- where a handler ends well or over the node is over; its own failure becomes the node's
abbrev pub over : Outcome → List Answer → Walked
over Good left = done [] (ended_with Over left)
over Over left = done [] (ended_with Over left)
over (Bad code) left = done [] (ended_with (Bad code) left)

-- the walk of the handler of a failure on the node's inputs, if there is one; without one the failure stays
abbrev pub handler_walk : (ℕ → Walking) → Option NodeNo → ℕ → Walking
handler_walk walks None code values left = done [] (ended_with (Bad code) left)
handler_walk walks (Some handler) code values left =
    then (walks handler.0 values left) (λ ended. over ended.outcome ended.left)

-- after the drops: a failure goes to its handler, and any other end stays
abbrev pub handled : (ℕ → Walking) → List HandleArm → List Value → Outcome → Ended → Walked
handled walks arms inputs Good ended = done [] ended
handled walks arms inputs Over ended = done [] ended
handled walks arms inputs (Bad code) ended =
    handler_walk walks (handler_for arms code) code inputs ended.left

-- the walk of a node, from the walks of the nodes that it leads to
abbrev pub walk_by : Given → Rule Walking
walk_by given walks number node values left =
    let own : NodeNo = record { 0 = number } in
    then (enclosed given.key (given.locks number) own (body_walk given walks node.body own values left))
    (λ ended. handled walks node.on_fail values ended.outcome ended)

-- the walk of a node through all nested nodes
abbrev pub walk : Given → List Node → ℕ → Walking
walk given nodes number = through (λ values left. lost) (walk_by given) nodes number
