-- In numbered programs without cycles a walk never reaches a place where there is no node.
use Rattle.std.proofs.Common.{◌≡◌, ◌<◌, ◌≤◌, ◌+◌, inl, inr, ℕ, zero, suc, List, [], ◌∷◌, ◌++◌, map, length, Option, Some, None, refl, arith}
use Rattle.std.specs.List.{slice_get, flat_map, AllByRecursion}
use Rattle.flux_values.specs.declared.values.Value.{Value}
use Rattle.flux_values.specs.declared.answers.Answer.{Answer}
use Rattle.flux_model.specs.declared.programs.Node.{Node}
use Rattle.flux_model.specs.declared.programs.NodeNo.{NodeNo}
use Rattle.flux_model.specs.declared.programs.Case.{Case}
use Rattle.flux_model.specs.declared.programs.HandleArm.{HandleArm}
use Rattle.flux_model.specs.declared.programs.Body.{Body}
use Rattle.flux_model.specs.declared.programs.Body.TheVariants.{Concrete, Abstract}
use Rattle.flow_model.specs.declared.journals.Outcome.{Outcome}
use Rattle.flow_model.specs.declared.journals.Outcome.TheVariants.{Good, Over, Bad}
use Rattle.flux_model.specs.Children.{IsIn}
use Rattle.flux_model.specs.Leading.{members_of, handlers_of, leads_to, leads_in}
use Rattle.flux_model.specs.Ordering.{IsLed, HasCycle}
use Rattle.flux_model.specs.Numbered.{AreBelow}
use Rattle.flux_model.specs.Nested.{nested, for_node}
use Rattle.flow_model.specs.Matching.{first_case, handler_for}
use Rattle.flow_model.specs.Waits.{Chain}
use Rattle.flow_model.specs.Walk.{Given, Ended, Stop, finished, before_call, nowhere, Walked, Walking, lost, following, then, while_good, go_on, members_walk, case_walk, body_walk, leaving, enclosed, over, handler_walk, handled, walk_by}
use Rattle.flux_model.proofs.NodeLists.{in_front, in_behind}
use Rattle.flux_model.proofs.LeadingLemmas.{led-below_count}
use Rattle.flux_laws.proofs.Members.{get-within}
use Rattle.flux_laws.proofs.Choices.{IsCaseOf, case-chosen, IsHandlerOf, handler-chosen}
use Rattle.flux_laws.proofs.Trails.{IsTrail, trail-more, trail-short}

-- a walk stopped somewhere
abbrev pub IsPlace : Stop → Type 0
IsPlace (finished ended) = Unit {0}
IsPlace (before_call node args) = Unit {0}
IsPlace nowhere = ⊥

place-then : (walked : Walked) (next : Ended → Walked) → IsPlace walked.stop → ((ended : Ended) → let m = next ended in IsPlace m.stop) → let m = then walked next in IsPlace m.stop
place-then walked next is more = by walked.stop is
  where
    by : (stop : Stop) → IsPlace stop → let m = following next stop in IsPlace m.stop
    by (finished ended) is = more ended
    by (before_call node args) is = tt
    by nowhere is = absurd is

-- whatever the values and answers
abbrev pub IsSure : Walking → Type 0
IsSure walking = (values : List Value) (left : List Answer) → let walked = walking values left in IsPlace walked.stop

sure-go_on : (walking : Walking) → IsSure walking → (ended : Ended) → let walked = go_on walking ended in IsPlace walked.stop
sure-go_on walking sure ended = by ended.outcome
  where
    by : (outcome : Outcome) → let walked = while_good walking outcome ended.values ended.left in IsPlace walked.stop
    by Good = sure ended.values ended.left
    by Over = tt
    by (Bad code) = tt

sure-members : (walks : ℕ → Walking) (members : List NodeNo) → ((m : ℕ) → IsIn m members → IsSure (walks m)) → IsSure (members_walk walks members)
sure-members walks [] sure values left = tt
sure-members walks (member ∷ members) sure values left =
    place-then (walks member.0 values left) (go_on (members_walk walks members)) (sure member.0 (inl refl) values left)
    (sure-go_on (members_walk walks members) (sure-members walks members (λ m is. sure m (inr is))))

sure-case : (walks : ℕ → Walking) (cases : List Case) (chosen : Option (ℕ × Case)) → IsCaseOf cases chosen
    → ((m : ℕ) → IsIn m (flat_map (λ c. c.members) cases) → IsSure (walks m)) → IsSure (case_walk walks chosen)
sure-case walks cases None is sure values left = tt
sure-case walks cases (Some (place, case)) is sure values left = sure-members walks case.members (λ m among. sure m (is m among)) values left

sure-body : (given : Given) (walks : ℕ → Walking) (body : Body) (node : NodeNo) → ((m : ℕ) → IsIn m (members_of body) → IsSure (walks m)) → IsSure (body_walk given walks body node)
sure-body given walks (Concrete name) node sure values [] = tt
sure-body given walks (Concrete name) node sure values (answer ∷ left) = tt
sure-body given walks (Abstract cases) node sure values left =
    sure-case walks cases (first_case (λ case. given.matches case.patterns values) 1 cases) (case-chosen (λ case. given.matches case.patterns values) 1 cases) sure values left

sure-over : (outcome : Outcome) (left : List Answer) → let walked = over outcome left in IsPlace walked.stop
sure-over Good left = tt
sure-over Over left = tt
sure-over (Bad code) left = tt

sure-handler : (walks : ℕ → Walking) (arms : List HandleArm) (chosen : Option NodeNo) → IsHandlerOf arms chosen → ((m : ℕ) → IsIn m (handlers_of arms) → IsSure (walks m))
    → (code : ℕ) → IsSure (handler_walk walks chosen code)
sure-handler walks arms None is sure code values left = tt
sure-handler walks arms (Some handler) is sure code values left =
    place-then (walks handler.0 values left) (λ ended. over ended.outcome ended.left) (sure handler.0 is values left) (λ ended. sure-over ended.outcome ended.left)

sure-handled : (walks : ℕ → Walking) (arms : List HandleArm) → ((m : ℕ) → IsIn m (handlers_of arms) → IsSure (walks m))
    → (values : List Value) (outcome : Outcome) (ended : Ended) → let walked = handled walks arms values outcome ended in IsPlace walked.stop
sure-handled walks arms sure values Good ended = tt
sure-handled walks arms sure values Over ended = tt
sure-handled walks arms sure values (Bad code) ended = sure-handler walks arms (handler_for arms code) (handler-chosen arms code) sure code values ended.left

sure-node : (given : Given) (walks : ℕ → Walking) (number : ℕ) (node : Node) → ((m : ℕ) → IsIn m (leads_to node) → IsSure (walks m)) → IsSure (walk_by given walks number node)
sure-node given walks number node sure values left =
    let own : NodeNo = record { 0 = number } in
    place-then (enclosed given.key (given.locks number) own (body_walk given walks node.body own values left)) (λ ended. handled walks node.on_fail values ended.outcome ended)
    (place-then (body_walk given walks node.body own values left) (leaving given.key (given.locks number) own)
    (sure-body given walks node.body own (λ m is. sure m (in_front m (members_of node.body) (handlers_of node.on_fail) is)) values left) (λ ended. tt))
    (λ ended. sure-handled walks node.on_fail (λ m is. sure m (in_behind m (members_of node.body) (handlers_of node.on_fail) is)) values ended.outcome ended)

-- ---- leading doesn't come back

-- a node leads to another
abbrev pub Leads : List Node → ℕ → ℕ → Type 0
Leads nodes from to = IsIn to (leads_in nodes from)

chain-led : (nodes : List Node) (from : ℕ) (between : List ℕ) (to : ℕ) → Chain (Leads nodes) from between to
    → IsLed nodes from (map (λ n. record { 0 = n }) between ++ record { 0 = to } ∷ [])
chain-led nodes from [] to chain = (chain, tt)
chain-led nodes from (next ∷ between) to (first, chain) = (first, chain-led nodes next between to chain)

-- without cycles no steps come back
pub no-return : (nodes : List Node) → (HasCycle nodes → ⊥) → (x : ℕ) (between : List ℕ) → Chain (Leads nodes) x between x → ⊥
no-return nodes acyclic x between chain = acyclic (x, record { between = map (λ n. record { 0 = n }) between; led = chain-led nodes x between x chain })

module _ (given : Given) (nodes : List Node) (numbered : AllByRecursion (λ node. AreBelow (length nodes) (leads_to node)) nodes) (acyclic : HasCycle nodes → ⊥) where
  -- the walk of a node on a trail of nodes that is long enough
  pub sure-nested : (depth number : ℕ) (visited : List ℕ) → number < length nodes → IsTrail (Leads nodes) (length nodes) visited number → length nodes ≤ length visited + depth
      → IsSure (nested (λ values left. lost) (walk_by given) nodes depth number)
  sure-nested zero number visited lt trail enough =
      let short = trail-short (Leads nodes) (length nodes) visited number trail in absurd (omega (arith, short, enough))
  sure-nested (suc depth) number visited lt trail enough = by (slice_get nodes number) refl (λ m is.
      let below = led-below_count (length nodes) nodes number m numbered is in
      sure-nested depth m (number ∷ visited) below (trail-more (Leads nodes) (length nodes) visited number m (no-return nodes acyclic) trail is below) (omega (arith, enough)))
    where
      by : (found : Option Node) → slice_get nodes number ≡ found → ((m : ℕ) → IsIn m (leads_in nodes number) → IsSure (nested (λ values left. lost) (walk_by given) nodes depth m))
          → IsSure (for_node (λ values left. lost) (walk_by given (nested (λ values left. lost) (walk_by given) nodes depth) number) found)
      by None at more values left = let (x, there) = get-within nodes number lt in absurd (cc (at, there))
      by (Some node) at more values left = sure-node given (nested (λ vs ls. lost) (walk_by given) nodes depth) number node (λ m is. more m (rw at is)) values left
