-- The events of a flow's walk are of the program, where the codes of its answers have 16 bits.
use Rattle.std.proofs.Common.{◌≡◌, ◌≤◌, ◌<◌, ◌+◌, ◌^◌, ℕ, zero, suc, Bool, true, false, cond, List, [], ◌∷◌, ◌++◌, map, reverse, length, Option, Some, None, refl, subst, arith}
use Rattle.std.specs.List.{slice_get, AllByRecursion}
use Rattle.std.proofs.lemmas.Grind.{reverse_onto}
use Rattle.flux_values.specs.declared.values.Value.{Value}
use Rattle.flux_values.specs.declared.answers.Answer.{Answer}
use Rattle.flux_values.specs.declared.answers.CallResult.{CallResult}
use Rattle.flux_values.specs.declared.answers.CallResult.TheVariants as results
use Rattle.flux_model.specs.declared.programs.Program.{Program}
use Rattle.flux_model.specs.declared.programs.TheConstants.{COUNT_LIMIT}
use Rattle.flux_model.specs.declared.programs.Node.{Node}
use Rattle.flux_model.specs.declared.programs.NodeNo.{NodeNo}
use Rattle.flux_model.specs.declared.programs.ClassNo.{ClassNo}
use Rattle.flux_model.specs.declared.programs.Hold.{Hold}
use Rattle.flux_model.specs.declared.programs.Case.{Case}
use Rattle.flux_model.specs.declared.programs.HandleArm.{HandleArm}
use Rattle.flux_model.specs.declared.programs.Body.{Body}
use Rattle.flux_model.specs.declared.programs.Body.TheVariants.{Concrete, Abstract}
use Rattle.flow_model.specs.declared.journals.Key.{Key}
use Rattle.flow_model.specs.declared.journals.Outcome.{Outcome}
use Rattle.flow_model.specs.declared.journals.Outcome.TheVariants.{Good, Over, Bad}
use Rattle.flow_model.specs.declared.journals.Event.{Event}
use Rattle.flow_model.specs.declared.journals.Event.TheVariants as events
use Rattle.flux_model.specs.Numbered.{parts_of}
use Rattle.flux_model.specs.Nested.{nested, for_node}
use Rattle.flow_model.specs.Matching.{first_case, handler_for}
use Rattle.flow_model.specs.Walk.{Given, Ended, Stop, finished, before_call, nowhere, Walked, Walking, lost, done, following, then, ended_with, ended_by, call, while_good, go_on, members_walk, case_walk, body_walk, leaving, enclosed, over, handler_walk, handled, walk_by}
use Rattle.flux_journal.specs.Entries.{IsNodeOf, IsKeyOf, IsOutcome, IsEventOf}
use Rattle.flux_laws.proofs.Members.{all-get, get-within}

-- ---- lists

pub all-both : {X : Type 0} (P : X → Type 0) (a b : List X) → AllByRecursion P a → AllByRecursion P b → AllByRecursion P (a ++ b)
all-both P [] b left right = right
all-both P (x ∷ a) b left right = (left.0, all-both P a b left.1 right)

all-reverse : {X : Type 0} (P : X → Type 0) (xs : List X) → AllByRecursion P xs → AllByRecursion P (reverse xs)
all-reverse P [] all = tt
all-reverse P (x ∷ xs) all = rw (reverse_onto xs x []) (all-both P (reverse xs) (x ∷ []) (all-reverse P xs all.1) (all.0, tt))

all-map : {X Y : Type 0} (P : X → Type 0) (Q : Y → Type 0) (f : X → Y) → ((x : X) → P x → Q (f x)) → (xs : List X) → AllByRecursion P xs → AllByRecursion Q (map f xs)
all-map P Q f of [] all = tt
all-map P Q f of (x ∷ xs) all = (of x all.0, all-map P Q f of xs all.1)

-- ---- answers

-- a code of 16 bits
abbrev pub HasSmallCode : CallResult → Type 0
HasSmallCode (results.Good values) = Unit {0}
HasSmallCode (results.Bad code) = code < 2 ^ 16

abbrev pub HaveSmallCodes : List Answer → Type 0
HaveSmallCodes answers = AllByRecursion (λ answer. HasSmallCode answer.result) answers

-- ---- places of cases

-- the place of a chosen case has 32 bits
abbrev IsPlaced : Option (ℕ × Case) → Type 0
IsPlaced None = Unit {0}
IsPlaced (Some chosen) = chosen.0 < 2 ^ 32

case-placed : (fits : Case → Bool) (place : ℕ) (cases : List Case) → place + length cases ≤ 2 ^ 32 → IsPlaced (first_case fits place cases)
case-placed fits place [] few = tt
case-placed fits place (case ∷ cases) few = by (fits case) (case-placed fits (place + 1) cases (omega (arith, few)))
  where
    by : (b : Bool) → IsPlaced (first_case fits (place + 1) cases) → IsPlaced (cond b (Some (place, case)) (first_case fits (place + 1) cases))
    by true more = omega (arith, few)
    by false more = more

module _ (p : Program) where
  -- an event of the program; what is in a call isn't looked at
  abbrev pub IsPart : Event → Type 0
  IsPart (events.Call made) = Unit {0}
  IsPart (events.Take key mode) = IsKeyOf p key
  IsPart (events.Wait key mode) = IsKeyOf p key
  IsPart (events.Enter node) = IsNodeOf p node
  IsPart (events.Choose place) = place < 2 ^ 32
  IsPart (events.Exit node outcome) = IsNodeOf p node × IsOutcome outcome
  IsPart (events.Drop key) = IsKeyOf p key
  IsPart (events.End outcome) = IsOutcome outcome

  abbrev pub AreParts : List Event → Type 0
  AreParts list = AllByRecursion IsPart list

  -- an end with an outcome of 16 bits, and such answers left
  pub record IsEnd (ended : Ended) : Type 0 where
    pub outcome_ : IsOutcome ended.outcome
    pub left_ : HaveSmallCodes ended.left

  abbrev pub StopsSo : Stop → Type 0
  StopsSo (finished ended) = IsEnd ended
  StopsSo (before_call node args) = Unit {0}
  StopsSo nowhere = Unit {0}

  pub record IsOfProgram (walked : Walked) : Type 0 where
    pub parts : AreParts walked.events
    pub stops : StopsSo walked.stop

  -- whatever its values, with such answers
  abbrev pub StaysInProgram : Walking → Type 0
  StaysInProgram walking = (values : List Value) (left : List Answer) → HaveSmallCodes left → IsOfProgram (walking values left)

  part-done : (ended : Ended) → IsEnd ended → IsOfProgram (done [] ended)
  part-done ended is = record { parts = tt; stops = is }

  part-then : (walked : Walked) (next : Ended → Walked) → IsOfProgram walked → ((ended : Ended) → IsEnd ended → IsOfProgram (next ended)) → IsOfProgram (then walked next)
  part-then walked next first more = by walked.stop first.stops
    where
      by : (stop : Stop) → StopsSo stop → IsOfProgram (let m = following next stop in record { events = walked.events ++ m.events; stop = m.stop })
      by (finished ended) is = let rest = more ended is in
          record { parts = all-both IsPart walked.events (next ended).events first.parts rest.parts; stops = rest.stops }
      by (before_call node args) is = record { parts = all-both IsPart walked.events [] first.parts tt; stops = tt }
      by nowhere is = record { parts = all-both IsPart walked.events [] first.parts tt; stops = tt }

  part-go_on : (walking : Walking) → StaysInProgram walking → (ended : Ended) → IsEnd ended → IsOfProgram (go_on walking ended)
  part-go_on walking stays ended is = by ended.outcome is.outcome_
    where
      by : (outcome : Outcome) → IsOutcome outcome → IsOfProgram (while_good walking outcome ended.values ended.left)
      by Good own = stays ended.values ended.left is.left_
      by Over own = part-done (ended_with Over ended.left) (record { outcome_ = own; left_ = is.left_ })
      by (Bad code) own = part-done (ended_with (Bad code) ended.left) (record { outcome_ = own; left_ = is.left_ })

  part-members : (walks : ℕ → Walking) → ((m : ℕ) → StaysInProgram (walks m)) → (members : List NodeNo) → StaysInProgram (members_walk walks members)
  part-members walks stays [] values left small = part-done (record { outcome = Good; values = values; left = left }) (record { outcome_ = tt; left_ = small })
  part-members walks stays (member ∷ members) values left small =
      part-then (walks member.0 values left) (go_on (members_walk walks members)) (stays member.0 values left small)
      (part-go_on (members_walk walks members) (part-members walks stays members))

  part-call : (node : NodeNo) → StaysInProgram (call node)
  part-call node values [] small = record { parts = tt; stops = tt }
  part-call node values (answer ∷ left) small = record { parts = (tt, tt); stops = by answer.result small.0 }
    where
      by : (result : CallResult) → HasSmallCode result → IsEnd (ended_by result left)
      by (results.Good out) own = record { outcome_ = tt; left_ = small.1 }
      by (results.Bad code) own = record { outcome_ = own; left_ = small.1 }

  part-case : (walks : ℕ → Walking) → ((m : ℕ) → StaysInProgram (walks m)) → (chosen : Option (ℕ × Case)) → IsPlaced chosen → StaysInProgram (case_walk walks chosen)
  part-case walks stays None placed values left small = part-done (ended_with (Bad 256) left) (record { outcome_ = omega arith; left_ = small })
  part-case walks stays (Some (place, case)) placed values left small =
      let inner = part-members walks stays case.members values left small in
      record { parts = (placed, inner.parts); stops = inner.stops }

  part-body : (given : Given) (walks : ℕ → Walking) → ((m : ℕ) → StaysInProgram (walks m)) → (body : Body) → parts_of body ≤ COUNT_LIMIT → (node : NodeNo) → StaysInProgram (body_walk given walks body node)
  part-body given walks stays (Concrete name) few node values left small = part-call node values left small
  part-body given walks stays (Abstract cases) few node values left small =
      part-case walks stays (first_case (λ case. given.matches case.patterns values) 1 cases)
      (case-placed (λ case. given.matches case.patterns values) 1 cases (omega (arith, few))) values left small

  part-over : (outcome : Outcome) (left : List Answer) → IsOutcome outcome → HaveSmallCodes left → IsOfProgram (over outcome left)
  part-over Good left own small = part-done (ended_with Over left) (record { outcome_ = tt; left_ = small })
  part-over Over left own small = part-done (ended_with Over left) (record { outcome_ = tt; left_ = small })
  part-over (Bad code) left own small = part-done (ended_with (Bad code) left) (record { outcome_ = own; left_ = small })

  part-handler : (walks : ℕ → Walking) → ((m : ℕ) → StaysInProgram (walks m)) → (chosen : Option NodeNo) (code : ℕ) → code < 2 ^ 16 → StaysInProgram (handler_walk walks chosen code)
  part-handler walks stays None code own values left small = part-done (ended_with (Bad code) left) (record { outcome_ = own; left_ = small })
  part-handler walks stays (Some handler) code own values left small =
      part-then (walks handler.0 values left) (λ ended. over ended.outcome ended.left) (stays handler.0 values left small)
      (λ ended is. part-over ended.outcome ended.left is.outcome_ is.left_)

  part-handled : (walks : ℕ → Walking) → ((m : ℕ) → StaysInProgram (walks m)) → (arms : List HandleArm) (values : List Value) (ended : Ended) → IsEnd ended
      → IsOfProgram (handled walks arms values ended.outcome ended)
  part-handled walks stays arms values ended is = by ended.outcome is.outcome_
    where
      by : (outcome : Outcome) → IsOutcome outcome → IsOfProgram (handled walks arms values outcome ended)
      by Good own = part-done ended is
      by Over own = part-done ended is
      by (Bad code) own = part-handler walks stays (handler_for arms code) code own values ended.left is.left_

  -- ---- nodes

  abbrev pub AreOfClasses : List Hold → Type 0
  AreOfClasses holds = AllByRecursion (λ hold. hold.class.0 < length p.classes) holds

  module _ (given : Given) (keyed : (class : ClassNo) → class.0 < length p.classes → IsKeyOf p (given.key class)) (locked : (number : ℕ) → AreOfClasses (given.locks number))
      (few : AllByRecursion (λ node. parts_of node.body ≤ COUNT_LIMIT) p.nodes) where
    part-leaving : (node : NodeNo) → IsNodeOf p node → (holds : List Hold) → AreOfClasses holds → (ended : Ended) → IsEnd ended → IsOfProgram (leaving given.key holds node ended)
    part-leaving node own holds are ended is = record {
      parts = (
        (own, is.outcome_),
        all-map (λ hold. hold.class.0 < length p.classes) IsPart (λ hold. events.Drop (given.key hold.class)) (λ hold lt. keyed hold.class lt) (reverse holds)
            (all-reverse (λ hold. hold.class.0 < length p.classes) holds are),
      );
      stops = is;
    }

    part-enclosed : (node : NodeNo) → IsNodeOf p node → (holds : List Hold) → AreOfClasses holds → (body : Walked) → IsOfProgram body → IsOfProgram (enclosed given.key holds node body)
    part-enclosed node own holds are body inner =
        let rest = part-then body (leaving given.key holds node) inner (part-leaving node own holds are) in
        record {
          parts = all-both IsPart (map (λ hold. events.Take (given.key hold.class) hold.mode) holds) (events.Enter node ∷ (then body (leaving given.key holds node)).events)
              (all-map (λ hold. hold.class.0 < length p.classes) IsPart (λ hold. events.Take (given.key hold.class) hold.mode) (λ hold lt. keyed hold.class lt) holds are)
              (own, rest.parts);
          stops = rest.stops;
        }

    part-node : (walks : ℕ → Walking) → ((m : ℕ) → StaysInProgram (walks m)) → (number : ℕ) → number < length p.nodes → (node : Node) → parts_of node.body ≤ COUNT_LIMIT
        → StaysInProgram (walk_by given walks number node)
    part-node walks stays number lt node own_few values left small =
        let own : NodeNo = record { 0 = number } in
        part-then (enclosed given.key (given.locks number) own (body_walk given walks node.body own values left)) (λ ended. handled walks node.on_fail values ended.outcome ended)
        (part-enclosed own lt (given.locks number) (locked number) (body_walk given walks node.body own values left) (part-body given walks stays node.body own_few own values left small))
        (part-handled walks stays node.on_fail values)

    within : (nodes : List Node) (number : ℕ) (node : Node) → slice_get nodes number ≡ Some node → number < length nodes
    within [] number node at = absurd cc
    within (n ∷ nodes) zero node at = omega arith
    within (n ∷ nodes) (suc number) node at = let lt = within nodes number node at in omega (arith, lt)

    -- the walk of a node through nested nodes
    pub part-nested : (depth number : ℕ) → StaysInProgram (nested (λ values left. lost) (walk_by given) p.nodes depth number)
    part-nested zero number values left small = record { parts = tt; stops = tt }
    part-nested (suc depth) number values left small = by (slice_get p.nodes number) refl (part-nested depth)
      where
        by : (found : Option Node) → slice_get p.nodes number ≡ found → ((m : ℕ) → StaysInProgram (nested (λ vs ls. lost) (walk_by given) p.nodes depth m))
            → IsOfProgram (for_node (λ vs ls. lost) (walk_by given (nested (λ vs ls. lost) (walk_by given) p.nodes depth) number) found values left)
        by None at inner = record { parts = tt; stops = tt }
        by (Some node) at inner =
            part-node (nested (λ vs ls. lost) (walk_by given) p.nodes depth) inner number (within p.nodes number node at) node
            (all-get (λ n. parts_of n.body ≤ COUNT_LIMIT) p.nodes number node few at) values left small
