-- What the good calls of `Swarm` in a journal asked.
use Rattle.std.specs.Prelude.{ℕ, ◌&&◌, if◌then◌else◌, Bool, true, false, List, [], ◌∷◌, Option, Some, None, codes}
use Rattle.std.specs.List.{slice_get, flat_map}
use Rattle.std.specs.Option.{option_or}
use Rattle.std.specs.Str.{bytes_eq}
use Rattle.flux_values.specs.declared.answers.CallResult.{CallResult}
use Rattle.flux_values.specs.declared.answers.CallResult.TheVariants.{Good, Bad}
use Rattle.flux_model.specs.declared.programs.Program.{Program}
use Rattle.flux_model.specs.declared.programs.Node.{Node}
use Rattle.flux_model.specs.declared.programs.Body.{Body}
use Rattle.flux_model.specs.declared.programs.Body.TheVariants.{Concrete, Abstract}
use Rattle.flow_model.specs.declared.journals.CallMade.{CallMade}
use Rattle.flow_model.specs.declared.journals.Event.{Event}
use Rattle.flow_model.specs.declared.journals.Event.TheVariants.{Take, Wait, Enter, Choose, Call, Exit, Drop, End}
use Rattle.flow_model.specs.declared.journals.Entry.{Entry}
use Rattle.nodes_tracker.specs.declared.asks.Ask.{Ask}
use Rattle.nodes_tracker.specs.Calls.{ask_given}

-- a concrete node whose library node is `Swarm`
abbrev pub is_swarm_body : Body → Bool
is_swarm_body (Concrete name) = bytes_eq name (codes "Swarm")
is_swarm_body (Abstract cases) = false

abbrev pub is_swarm_node : Option Node → Bool
is_swarm_node None = false
is_swarm_node (Some node) = is_swarm_body node.body

abbrev pub is_good : CallResult → Bool
is_good (Good values) = true
is_good (Bad code) = false

-- what a call asked, where it is a good call of a `Swarm` node
abbrev pub asked_by : Program → CallMade → Option Ask
asked_by p made = let answer = made.answer in
    if is_swarm_node (slice_get p.nodes made.node.0) && is_good answer.result
    then ask_given made.args else None

abbrev pub asked_in : Program → Event → Option Ask
asked_in p (Call made) = asked_by p made
asked_in p (Take key mode) = None
asked_in p (Wait key mode) = None
asked_in p (Enter node) = None
asked_in p (Choose place) = None
asked_in p (Exit node outcome) = None
asked_in p (Drop key) = None
asked_in p (End outcome) = None

-- an ask, where it is of this hash
abbrev pub of_hash : List ℕ → Option Ask → List Ask
of_hash hash None = []
of_hash hash (Some ask) = if bytes_eq ask.hash hash then ask ∷ [] else []

-- what the good calls of `Swarm` for a hash asked, in order
abbrev pub asks_of : Program → List ℕ → List Entry → List Ask
asks_of p hash entries = flat_map (λ entry. of_hash hash (asked_in p entry.event)) entries

-- the last ask of a peer
abbrev pub last_of : List ℕ → List Ask → Option Ask
last_of address [] = None
last_of address (ask ∷ asks) =
    option_or (last_of address asks) (if bytes_eq ask.peer address then Some ask else None)
