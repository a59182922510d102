-- A walk has at most as many events as its node's size, through however many nested nodes.
use Rattle.std.proofs.Common.{◌≡◌, ◌≤◌, ◌+◌, inl, inr, ℕ, zero, suc, Bool, true, false, cond, List, [], ◌∷◌, ◌++◌, map, reverse, length, Option, Some, None, ap, arith}
use Rattle.std.specs.List.{slice_get, flat_map}
use Rattle.std.proofs.lemmas.List.{length-append, length-map, length-reverse}
use Rattle.flux_values.specs.declared.values.Value.{Value}
use Rattle.flux_values.specs.declared.answers.Answer.{Answer}
use Rattle.flux_model.specs.declared.programs.Node.{Node}
use Rattle.flux_model.specs.declared.programs.NodeNo.{NodeNo}
use Rattle.flux_model.specs.declared.programs.ClassNo.{ClassNo}
use Rattle.flux_model.specs.declared.programs.Hold.{Hold}
use Rattle.flux_model.specs.declared.programs.Case.{Case}
use Rattle.flux_model.specs.declared.programs.HandleArm.{HandleArm}
use Rattle.flux_model.specs.declared.programs.Body.{Body}
use Rattle.flux_model.specs.declared.programs.Body.TheVariants.{Concrete, Abstract}
use Rattle.flow_model.specs.declared.journals.Key.{Key}
use Rattle.flow_model.specs.declared.journals.Event.TheVariants as events
use Rattle.flow_model.specs.declared.journals.Outcome.{Outcome}
use Rattle.flow_model.specs.declared.journals.Outcome.TheVariants.{Good, Over, Bad}
use Rattle.flux_model.specs.Children.{IsIn}
use Rattle.flux_model.specs.Leading.{members_of, handlers_of}
use Rattle.flux_model.specs.Nested.{nested, for_node}
use Rattle.flow_model.specs.Matching.{first_case, handler_for}
use Rattle.flux_model.specs.Sizes.{sizes_of, size_by}
use Rattle.flow_model.specs.Walk.{Given, Ended, Stop, finished, before_call, nowhere, Walked, Walking, lost, following, then, while_good, go_on, members_walk, case_walk, body_walk, leaving, enclosed, over, handler_walk, handled, walk_by}
use Rattle.flux_laws.proofs.Choices.{IsHandlerOf, handler-chosen}

-- how many events a walk has
abbrev pub events_count : Walked → ℕ
events_count walked = length walked.events

-- one after another have at most as many as both
count-then : (walked : Walked) (next : Ended → Walked) (first more : ℕ) → events_count walked ≤ first → ((ended : Ended) → events_count (next ended) ≤ more)
    → events_count (then walked next) ≤ first + more
count-then walked next first more le then_le = by walked.stop
  where
    by : (stop : Stop) → length (walked.events ++ (following next stop).events) ≤ first + more
    by (finished ended) = let l = then_le ended in rw length-append (omega (arith, le, l))
    by (before_call node args) = rw length-append (omega (arith, le))
    by nowhere = rw length-append (omega (arith, le))

-- whatever the values and answers
abbrev pub HasAtMost : ℕ → Walking → Type 0
HasAtMost most walking = (values : List Value) (left : List Answer) → events_count (walking values left) ≤ most

count-go_on : (walking : Walking) (most : ℕ) → HasAtMost most walking → (ended : Ended) → events_count (go_on walking ended) ≤ most
count-go_on walking most has ended = by ended.outcome
  where
    by : (outcome : Outcome) → events_count (while_good walking outcome ended.values ended.left) ≤ most
    by Good = has ended.values ended.left
    by Over = omega arith
    by (Bad code) = omega arith

-- ---- sums of sizes

sizes-append : (size : ℕ → ℕ) (a b : List NodeNo) → sizes_of size (a ++ b) ≡ sizes_of size a + sizes_of size b
sizes-append size [] b = omega arith
sizes-append size (node ∷ a) b = let e = sizes-append size a b in omega (arith, e)

size-in : (size : ℕ → ℕ) (m : ℕ) (nodes : List NodeNo) → IsIn m nodes → size m ≤ sizes_of size nodes
size-in size m [] is = absurd is
size-in size m (node ∷ nodes) (inl same) = let e = ap size same in omega (arith, e)
size-in size m (node ∷ nodes) (inr is) = let l = size-in size m nodes is in omega (arith, l)

-- the members of a chosen case are no larger than those of all
abbrev IsWithin : (ℕ → ℕ) → List Case → Option (ℕ × Case) → Type 0
IsWithin size cases None = Unit {0}
IsWithin size cases (Some chosen) = sizes_of size chosen.1.members ≤ sizes_of size (flat_map (λ c. c.members) cases)

more_within : (size : ℕ → ℕ) (case : Case) (cases : List Case) (chosen : Option (ℕ × Case)) → IsWithin size cases chosen → IsWithin size (case ∷ cases) chosen
more_within size case cases None is = tt
more_within size case cases (Some chosen) is = let e = sizes-append size case.members (flat_map (λ c. c.members) cases) in omega (arith, e, is)

case-within : (size : ℕ → ℕ) (fits : Case → Bool) (place : ℕ) (cases : List Case) → IsWithin size cases (first_case fits place cases)
case-within size fits place [] = tt
case-within size fits place (case ∷ cases) = by (fits case) (case-within size fits (place + 1) cases)
  where
    by : (b : Bool) → IsWithin size cases (first_case fits (place + 1) cases) → IsWithin size (case ∷ cases) (cond b (Some (place, case)) (first_case fits (place + 1) cases))
    by true more = let e = sizes-append size case.members (flat_map (λ c. c.members) cases) in omega (arith, e)
    by false more = more_within size case cases (first_case fits (place + 1) cases) more

-- ---- parts of a walk

count-leaving : (key : ClassNo → Key) (holds : List Hold) (node : NodeNo) (ended : Ended) → events_count (leaving key holds node ended) ≤ 1 + length holds
count-leaving key holds node ended =
    let drops = length-map (reverse holds) (λ (hold : Hold). events.Drop (key hold.class)) in
    let turned = length-reverse holds in
    omega (arith, drops, turned)

count-enclosed : (key : ClassNo → Key) (holds : List Hold) (node : NodeNo) (body : Walked)
    → events_count (enclosed key holds node body) ≡ length holds + 1 + events_count (then body (leaving key holds node))
count-enclosed key holds node body =
    let takes = length-map holds (λ (hold : Hold). events.Take (key hold.class) hold.mode) in
    let all = length-append (map (λ (hold : Hold). events.Take (key hold.class) hold.mode) holds) (events.Enter node ∷ (then body (leaving key holds node)).events) in
    omega (arith, takes, all)

module _ (size : ℕ → ℕ) (walks : ℕ → Walking) (bounded : (m : ℕ) → HasAtMost (size m) (walks m)) where
  count-members : (members : List NodeNo) → HasAtMost (sizes_of size members) (members_walk walks members)
  count-members [] values left = omega arith
  count-members (member ∷ members) values left =
      count-then (walks member.0 values left) (go_on (members_walk walks members)) (size member.0) (sizes_of size members) (bounded member.0 values left)
      (count-go_on (members_walk walks members) (sizes_of size members) (count-members members))

  count-case : (cases : List Case) (chosen : Option (ℕ × Case)) → IsWithin size cases chosen → HasAtMost (1 + sizes_of size (flat_map (λ c. c.members) cases)) (case_walk walks chosen)
  count-case cases None is values left = omega arith
  count-case cases (Some (place, case)) is values left = let l = count-members case.members values left in omega (arith, l, is)

  count-body : (given : Given) (body : Body) (node : NodeNo) → HasAtMost (1 + sizes_of size (members_of body)) (body_walk given walks body node)
  count-body given (Concrete name) node values [] = omega arith
  count-body given (Concrete name) node values (answer ∷ left) = omega arith
  count-body given (Abstract cases) node values left =
      count-case cases (first_case (λ case. given.matches case.patterns values) 1 cases) (case-within size (λ case. given.matches case.patterns values) 1 cases) values left

  count-over : (outcome : Outcome) (left : List Answer) → events_count (over outcome left) ≤ 0
  count-over Good left = omega arith
  count-over Over left = omega arith
  count-over (Bad code) left = omega arith

  count-handler : (arms : List HandleArm) (chosen : Option NodeNo) → IsHandlerOf arms chosen → (code : ℕ) → HasAtMost (sizes_of size (handlers_of arms)) (handler_walk walks chosen code)
  count-handler arms None is code values left = omega arith
  count-handler arms (Some handler) is code values left =
      let l = count-then (walks handler.0 values left) (λ ended. over ended.outcome ended.left) (size handler.0) 0 (bounded handler.0 values left) (λ ended. count-over ended.outcome ended.left) in
      let m = size-in size handler.0 (handlers_of arms) is in
      omega (arith, l, m)

  count-handled : (arms : List HandleArm) (values : List Value) (outcome : Outcome) (ended : Ended) → events_count (handled walks arms values outcome ended) ≤ sizes_of size (handlers_of arms)
  count-handled arms values Good ended = omega arith
  count-handled arms values Over ended = omega arith
  count-handled arms values (Bad code) ended = count-handler arms (handler_for arms code) (handler-chosen arms code) code values ended.left

  count-node : (given : Given) (number : ℕ) (node : Node) → HasAtMost (size_by given.locks size number node) (walk_by given walks number node)
  count-node given number node values left =
      let own : NodeNo = record { 0 = number } in
      let holds = given.locks number in
      let body = body_walk given walks node.body own values left in
      let inner = then body (leaving given.key holds own) in
      let inner_le = count-then body (leaving given.key holds own) (1 + sizes_of size (members_of node.body)) (1 + length holds) (count-body given node.body own values left)
      (λ ended. count-leaving given.key holds own ended) in
      let outer_is = count-enclosed given.key holds own body in
      let all = count-then (enclosed given.key holds own body) (λ ended. handled walks node.on_fail values ended.outcome ended)
      (events_count (enclosed given.key holds own body)) (sizes_of size (handlers_of node.on_fail)) (omega arith) (λ ended. count-handled node.on_fail values ended.outcome ended) in
      let sum = sizes-append size (members_of node.body) (handlers_of node.on_fail) in
      omega (arith, inner_le, outer_is, all, sum)

-- ---- walks

-- the walk of a node
pub count-nested : (given : Given) (nodes : List Node) (depth number : ℕ)
    → HasAtMost (nested 0 (size_by given.locks) nodes depth number) (nested (λ values left. lost) (walk_by given) nodes depth number)
count-nested given nodes zero number values left = omega arith
count-nested given nodes (suc depth) number values left = by (slice_get nodes number) (λ m vs ls. count-nested given nodes depth m vs ls)
  where
    by : (found : Option Node) → ((m : ℕ) → HasAtMost (nested 0 (size_by given.locks) nodes depth m) (nested (λ vs ls. lost) (walk_by given) nodes depth m))
        → events_count (for_node (λ vs ls. lost) (walk_by given (nested (λ vs ls. lost) (walk_by given) nodes depth) number) found values left)
        ≤ for_node 0 (size_by given.locks (nested 0 (size_by given.locks) nodes depth) number) found
    by None bounded = omega arith
    by (Some node) bounded = count-node (nested 0 (size_by given.locks) nodes depth) (nested (λ vs ls. lost) (walk_by given) nodes depth) bounded given number node values left
