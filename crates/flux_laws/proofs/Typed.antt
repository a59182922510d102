-- Walks keep kinds: where each call that fits its node has an answer that does, every call fits its node, and what comes
-- out well has its node's kinds.
use Rattle.std.proofs.Common.{◌≡◌, ◌+◌, ◌⊎◌, inl, inr, ℕ, Bool, true, false, cond, List, [], ◌∷◌, ◌++◌, map, reverse, Option, Some, None, refl, sym, ap, subst, ◌∙◌}
use Rattle.std.specs.List.{flat_map, AllByRecursion}
use Rattle.flux_values.specs.declared.values.Kind.{Kind}
use Rattle.flux_values.specs.declared.values.Value.{Value}
use Rattle.flux_values.specs.declared.answers.Answer.{Answer}
use Rattle.flux_values.specs.declared.answers.CallResult.{CallResult}
use Rattle.flux_values.specs.declared.answers.CallResult.TheVariants as results
use Rattle.flux_model.specs.declared.programs.Node.{Node}
use Rattle.flux_model.specs.declared.programs.NodeNo.{NodeNo}
use Rattle.flux_model.specs.declared.programs.ClassNo.{ClassNo}
use Rattle.flux_model.specs.declared.programs.Hold.{Hold}
use Rattle.flux_model.specs.declared.programs.Case.{Case}
use Rattle.flux_model.specs.declared.programs.HandleArm.{HandleArm}
use Rattle.flux_model.specs.declared.programs.Body.{Body}
use Rattle.flux_model.specs.declared.programs.Body.TheVariants.{Concrete, Abstract}
use Rattle.flow_model.specs.declared.journals.CallMade.{CallMade}
use Rattle.flow_model.specs.declared.journals.Key.{Key}
use Rattle.flow_model.specs.declared.journals.Outcome.{Outcome}
use Rattle.flow_model.specs.declared.journals.Outcome.TheVariants.{Good, Over, Bad}
use Rattle.flow_model.specs.declared.journals.Event.{Event}
use Rattle.flow_model.specs.declared.journals.Event.TheVariants as events
use Rattle.flux_model.specs.Children.{IsIn}
use Rattle.flux_model.specs.Leading.{members_of, handlers_of, leads_to}
use Rattle.flux_model.specs.Kinds.{NodeKinds, Join, AreCasesJoined, AreHandlersJoined}
use Rattle.flux_model.specs.Items.{AreValues}
use Rattle.flow_model.specs.Matching.{first_case, handler_for}
use Rattle.flow_model.specs.Walk.{Given, Ended, Stop, finished, before_call, nowhere, Walked, Walking, done, following, then, ended_with, ended_by, call, while_good, go_on, members_walk, case_walk, body_walk, leaving, enclosed, over, handler_walk, handled, walk_by}
use Rattle.flux_laws.proofs.Members.{In, in-left, in-right, in-either}
use Rattle.flux_model.proofs.NodeLists.{in_front, in_behind}
use Rattle.flux_laws.proofs.Choices.{IsCaseOf, case-chosen, IsHandlerOf, handler-chosen}

-- what a call results in is of these kinds
abbrev pub GivesKinds : List Kind → CallResult → Type 0
GivesKinds outs (results.Good values) = AreValues outs values
GivesKinds outs (results.Bad code) = Unit {0}

-- what came out well is of these kinds
abbrev pub ComesOut : List Kind → Outcome → List Value → Type 0
ComesOut outs Good values = AreValues outs values
ComesOut outs Over values = Unit {0}
ComesOut outs (Bad code) values = Unit {0}

-- an end with values of these kinds, if it is a good one
abbrev pub EndsIn : List Kind → Ended → Type 0
EndsIn outs ended = ComesOut outs ended.outcome ended.values

module _ (kinds : ℕ → NodeKinds) (MayCall : ℕ → Type 0) where
  -- a call of a node that may be called, on values of its kinds
  pub record IsCallFit (node : NodeNo) (args : List Value) : Type 0 where
    pub may : MayCall node.0
    pub args_are : let own = kinds node.0 in AreValues own.ins args

  -- each call among events that fits its node has an answer that does
  abbrev pub AreFair : List Event → Type 0
  AreFair list = (made : CallMade) → In (events.Call made) list → IsCallFit made.node made.args → let own = kinds made.node.0 in let answer = made.answer in GivesKinds own.outs answer.result

  -- each call fits its node
  abbrev pub AreFit : List Event → Type 0
  AreFit list = (made : CallMade) → In (events.Call made) list → IsCallFit made.node made.args

  -- a walk stops before a call that fits, or with such an end
  abbrev pub StopsFit : (Ended → Type 0) → Stop → Type 0
  StopsFit Ends (finished ended) = Ends ended
  StopsFit Ends (before_call node args) = IsCallFit node args
  StopsFit Ends nowhere = Unit {0}

  -- calls that fit, and a stop that does
  pub record IsKept (Ends : Ended → Type 0) (walked : Walked) : Type 0 where
    pub calls : AreFit walked.events
    pub stops : StopsFit Ends walked.stop

  -- where answers are fair
  abbrev pub Keeps : (Ended → Type 0) → Walked → Type 0
  Keeps Ends walked = AreFair walked.events → IsKept Ends walked

  keeps-then : (First Ends : Ended → Type 0) (walked : Walked) (next : Ended → Walked) → Keeps First walked → ((ended : Ended) → First ended → Keeps Ends (next ended)) → Keeps Ends (then walked next)
  keeps-then First Ends walked next first more fair =
      let kept = first (λ made is fit. fair made (in-left walked.events (following next walked.stop).events (events.Call made) is) fit) in
      by walked.stop kept.calls kept.stops fair
    where
      by : (stop : Stop) → AreFit walked.events → StopsFit First stop → AreFair (walked.events ++ (following next stop).events)
          → IsKept Ends (let m = following next stop in record { events = walked.events ++ m.events; stop = m.stop })
      by (finished ended) calls stops fair =
          let rest = more ended stops (λ made is fit. fair made (in-right walked.events (next ended).events (events.Call made) is) fit) in
          record { calls = λ made is. both made (in-either walked.events (next ended).events (events.Call made) is) rest; stops = rest.stops }
        where
          both : (made : CallMade) → In (events.Call made) walked.events ⊎ In (events.Call made) (next ended).events → IsKept Ends (next ended) → IsCallFit made.node made.args
          both made (inl is) rest = calls made is
          both made (inr is) rest = rest.calls made is
      by (before_call node args) calls stops fair = record { calls = λ made is. front made (in-either walked.events [] (events.Call made) is); stops = stops }
        where
          front : (made : CallMade) → In (events.Call made) walked.events ⊎ In (events.Call made) [] → IsCallFit made.node made.args
          front made (inl is) = calls made is
          front made (inr is) = absurd is
      by nowhere calls stops fair = record { calls = λ made is. front made (in-either walked.events [] (events.Call made) is); stops = tt }
        where
          front : (made : CallMade) → In (events.Call made) walked.events ⊎ In (events.Call made) [] → IsCallFit made.node made.args
          front made (inl is) = calls made is
          front made (inr is) = absurd is

  keeps-done : (Ends : Ended → Type 0) (ended : Ended) → Ends ended → Keeps Ends (done [] ended)
  keeps-done Ends ended ends fair = record { calls = λ made is. absurd is; stops = ends }

  -- from values of these kinds to values of those, whatever the answers
  abbrev pub KeepsKinds : List Kind → List Kind → Walking → Type 0
  KeepsKinds ins outs walking = (values : List Value) (left : List Answer) → AreValues ins values → Keeps (EndsIn outs) (walking values left)

  keeps-go_on : (ins outs : List Kind) (walking : Walking) → KeepsKinds ins outs walking → (ended : Ended) → EndsIn ins ended → Keeps (EndsIn outs) (go_on walking ended)
  keeps-go_on ins outs walking keeps ended ends = by ended.outcome ends
    where
      by : (outcome : Outcome) → ComesOut ins outcome ended.values → Keeps (EndsIn outs) (while_good walking outcome ended.values ended.left)
      by Good ends = keeps ended.values ended.left ends
      by Over ends = keeps-done (EndsIn outs) (ended_with Over ended.left) tt
      by (Bad code) ends = keeps-done (EndsIn outs) (ended_with (Bad code) ended.left) tt

  keeps-members : (walks : ℕ → Walking) (members : List NodeNo) (ins outs : List Kind) → Join kinds ins members outs
      → ((m : ℕ) → IsIn m members → let own = kinds m in KeepsKinds own.ins own.outs (walks m)) → KeepsKinds ins outs (members_walk walks members)
  keeps-members walks [] ins outs join keeps values left are = keeps-done (EndsIn outs) (record { outcome = Good; values = values; left = left }) (subst (λ ks. AreValues ks values) join are)
  keeps-members walks (member ∷ members) ins outs (same, join) keeps values left are =
      let own = kinds member.0 in
      keeps-then (EndsIn own.outs) (EndsIn outs) (walks member.0 values left) (go_on (members_walk walks members))
      (keeps member.0 (inl refl) values left (subst (λ ks. AreValues ks values) same are))
      (keeps-go_on own.outs outs (members_walk walks members) (keeps-members walks members own.outs outs join (λ m is. keeps m (inr is))))

  keeps-call : (node : NodeNo) → MayCall node.0 → let own = kinds node.0 in KeepsKinds own.ins own.outs (call node)
  keeps-call node may values [] are fair = record { calls = λ made is. absurd is; stops = record { may = may; args_are = are } }
  keeps-call node may values (answer ∷ left) are fair = record { calls = one; stops = ended answer.result (fair made (inl refl) (record { may = may; args_are = are })) }
    where
      made : CallMade
      made = record { node = node; args = values; answer = answer }

      one : AreFit (events.Call (record { node = node; args = values; answer = answer }) ∷ [])
      one other (inl same) = let e : ◌≡◌ {A = CallMade} (record { node = node; args = values; answer = answer }) other = cc in
          subst (λ (m : CallMade). IsCallFit m.node m.args) e (record { may = may; args_are = are })
      one other (inr is) = absurd is

      ended : (result : CallResult) → (let own = kinds node.0 in GivesKinds own.outs result) → let own = kinds node.0 in EndsIn own.outs (ended_by result left)
      ended (results.Good out) gives = gives
      ended (results.Bad code) gives = tt

  -- ---- cases and handlers

  -- a chosen case is joined
  IsJoined : List Kind → List Kind → Option (ℕ × Case) → Type 0
  IsJoined ins outs None = Unit {0}
  IsJoined ins outs (Some chosen) = Join kinds ins chosen.1.members outs

  case-joined : (ins outs : List Kind) (fits : Case → Bool) (place : ℕ) (cases : List Case) → AllByRecursion (λ case. Join kinds ins case.members outs) cases
      → IsJoined ins outs (first_case fits place cases)
  unfolding IsJoined
  case-joined ins outs fits place [] all = tt
  case-joined ins outs fits place (case ∷ cases) (own, all) = by (fits case) (case-joined ins outs fits (place + 1) cases all)
    where
      by : (b : Bool) → IsJoined ins outs (first_case fits (place + 1) cases) → IsJoined ins outs (cond b (Some (place, case)) (first_case fits (place + 1) cases))
      by true more = own
      by false more = more

  -- a step that isn't a call before a walk
  keeps-before : (Ends : Ended → Type 0) (list : List Event) (walked : Walked) → ((made : CallMade) → In (events.Call made) list → ⊥) → Keeps Ends walked
      → Keeps Ends (record { events = list ++ walked.events; stop = walked.stop })
  keeps-before Ends list walked none keeps fair =
      let kept = keeps (λ made is. fair made (in-right list walked.events (events.Call made) is)) in
      record { calls = λ made is. by made (in-either list walked.events (events.Call made) is) kept; stops = kept.stops }
    where
      by : (made : CallMade) → In (events.Call made) list ⊎ In (events.Call made) walked.events → IsKept Ends walked → IsCallFit made.node made.args
      by made (inl is) kept = absurd (none made is)
      by made (inr is) kept = kept.calls made is

  keeps-case : (walks : ℕ → Walking) (ins outs : List Kind) (cases : List Case) (chosen : Option (ℕ × Case)) → IsJoined ins outs chosen → IsCaseOf cases chosen
      → ((m : ℕ) → IsIn m (flat_map (λ c. c.members) cases) → let own = kinds m in KeepsKinds own.ins own.outs (walks m)) → KeepsKinds ins outs (case_walk walks chosen)
  unfolding IsJoined
  keeps-case walks ins outs cases None joined is keeps values left are = keeps-done (EndsIn outs) (ended_with (Bad 256) left) tt
  keeps-case walks ins outs cases (Some (place, case)) joined is keeps values left are =
      keeps-before (EndsIn outs) (events.Choose place ∷ []) (members_walk walks case.members values left) (λ made there. no_choice made there)
      (keeps-members walks case.members ins outs joined (λ m among. keeps m (is m among)) values left are)
    where
      no_choice : (made : CallMade) → In (events.Call made) (events.Choose place ∷ []) → ⊥
      no_choice made (inl same) = cc
      no_choice made (inr there) = there

  -- a concrete node may be called
  abbrev pub MayCallBody : NodeNo → Body → Type 0
  MayCallBody node (Concrete name) = MayCall node.0
  MayCallBody node (Abstract cases) = Unit {0}

  keeps-body : (given : Given) (walks : ℕ → Walking) (body : Body) (node : NodeNo) → (let own = kinds node.0 in AreCasesJoined kinds own body) → MayCallBody node body
      → ((m : ℕ) → IsIn m (members_of body) → let own = kinds m in KeepsKinds own.ins own.outs (walks m))
      → let own = kinds node.0 in KeepsKinds own.ins own.outs (body_walk given walks body node)
  keeps-body given walks (Concrete name) node joined may keeps values left are = keeps-call node may values left are
  keeps-body given walks (Abstract cases) node joined may keeps values left are =
      let own = kinds node.0 in
      keeps-case walks own.ins own.outs cases (first_case (λ case. given.matches case.patterns values) 1 cases)
      (case-joined own.ins own.outs (λ case. given.matches case.patterns values) 1 cases joined)
      (case-chosen (λ case. given.matches case.patterns values) 1 cases) keeps values left are

  -- ---- nodes

  no_call-drops : (key : ClassNo → Key) (holds : List Hold) (made : CallMade) → In (events.Call made) (map (λ hold. events.Drop (key hold.class)) holds) → ⊥
  no_call-drops key [] made is = is
  no_call-drops key (hold ∷ holds) made (inl same) = cc
  no_call-drops key (hold ∷ holds) made (inr is) = no_call-drops key holds made is

  no_call-takes : (key : ClassNo → Key) (holds : List Hold) (made : CallMade) → In (events.Call made) (map (λ hold. events.Take (key hold.class) hold.mode) holds) → ⊥
  no_call-takes key [] made is = is
  no_call-takes key (hold ∷ holds) made (inl same) = cc
  no_call-takes key (hold ∷ holds) made (inr is) = no_call-takes key holds made is

  keeps-leaving : (Ends : Ended → Type 0) (key : ClassNo → Key) (holds : List Hold) (node : NodeNo) (ended : Ended) → Ends ended → Keeps Ends (leaving key holds node ended)
  keeps-leaving Ends key holds node ended ends fair = record { calls = λ made is. absurd (none made is); stops = ends }
    where
      none : (made : CallMade) → In (events.Call made) (events.Exit node ended.outcome ∷ map (λ hold. events.Drop (key hold.class)) (reverse holds)) → ⊥
      none made (inl same) = cc
      none made (inr is) = no_call-drops key (reverse holds) made is

  keeps-enclosed : (Ends : Ended → Type 0) (key : ClassNo → Key) (holds : List Hold) (node : NodeNo) (body : Walked) → Keeps Ends body → Keeps Ends (enclosed key holds node body)
  keeps-enclosed Ends key holds node body keeps =
      let inner = keeps-then Ends Ends body (leaving key holds node) keeps (λ ended ends. keeps-leaving Ends key holds node ended ends) in
      keeps-before Ends (map (λ hold. events.Take (key hold.class) hold.mode) holds) (record { events = events.Enter node ∷ (then body (leaving key holds node)).events; stop = (then body (leaving key holds node)).stop })
      (λ made is. no_call-takes key holds made is)
      (keeps-before Ends (events.Enter node ∷ []) (then body (leaving key holds node)) (λ made is. no_enter made is) inner)
    where
      no_enter : (made : CallMade) → In (events.Call made) (events.Enter node ∷ []) → ⊥
      no_enter made (inl same) = cc
      no_enter made (inr is) = is

  keeps-over : (outs : List Kind) (outcome : Outcome) (left : List Answer) → Keeps (EndsIn outs) (over outcome left)
  keeps-over outs Good left = keeps-done (EndsIn outs) (ended_with Over left) tt
  keeps-over outs Over left = keeps-done (EndsIn outs) (ended_with Over left) tt
  keeps-over outs (Bad code) left = keeps-done (EndsIn outs) (ended_with (Bad code) left) tt

  -- a handler takes what its node does
  joined-in : (own : NodeKinds) (m : ℕ) (nodes : List NodeNo) → AreHandlersJoined kinds own nodes → IsIn m nodes → let their = kinds m in their.ins ≡ own.ins
  joined-in own m [] all is = absurd is
  joined-in own m (node ∷ nodes) (first, all) (inl same) = ap (λ n. (kinds n).ins) same ∙ first
  joined-in own m (node ∷ nodes) (first, all) (inr is) = joined-in own m nodes all is

  keeps-handler : (walks : ℕ → Walking) (own : NodeKinds) (arms : List HandleArm) (chosen : Option NodeNo) → IsHandlerOf arms chosen → AreHandlersJoined kinds own (handlers_of arms)
      → ((m : ℕ) → IsIn m (handlers_of arms) → let their = kinds m in KeepsKinds their.ins their.outs (walks m)) → (code : ℕ) → KeepsKinds own.ins own.outs (handler_walk walks chosen code)
  keeps-handler walks own arms None is joined keeps code values left are = keeps-done (EndsIn own.outs) (ended_with (Bad code) left) tt
  keeps-handler walks own arms (Some handler) is joined keeps code values left are =
      let their = kinds handler.0 in
      keeps-then (EndsIn their.outs) (EndsIn own.outs) (walks handler.0 values left) (λ ended. over ended.outcome ended.left)
      (keeps handler.0 is values left (subst (λ ks. AreValues ks values) (sym (joined-in own handler.0 (handlers_of arms) joined is)) are))
      (λ ended ends. keeps-over own.outs ended.outcome ended.left)

  keeps-handled : (walks : ℕ → Walking) (own : NodeKinds) (arms : List HandleArm) → AreHandlersJoined kinds own (handlers_of arms)
      → ((m : ℕ) → IsIn m (handlers_of arms) → let their = kinds m in KeepsKinds their.ins their.outs (walks m))
      → (values : List Value) → AreValues own.ins values → (ended : Ended) → EndsIn own.outs ended → Keeps (EndsIn own.outs) (handled walks arms values ended.outcome ended)
  keeps-handled walks own arms joined keeps values are ended ends = by ended.outcome
    where
      by : (outcome : Outcome) → Keeps (EndsIn own.outs) (handled walks arms values outcome ended)
      by Good = keeps-done (EndsIn own.outs) ended ends
      by Over = keeps-done (EndsIn own.outs) ended ends
      by (Bad code) = keeps-handler walks own arms (handler_for arms code) (handler-chosen arms code) joined keeps code values ended.left are

  -- the walk of a node, by those of the nodes that it leads to
  pub keeps-node : (given : Given) (walks : ℕ → Walking) (number : ℕ) (node : Node) → (let own = kinds number in AreCasesJoined kinds own node.body)
      → (let own = kinds number in AreHandlersJoined kinds own (handlers_of node.on_fail)) → MayCallBody (record { 0 = number }) node.body
      → ((m : ℕ) → IsIn m (leads_to node) → let their = kinds m in KeepsKinds their.ins their.outs (walks m))
      → let own = kinds number in KeepsKinds own.ins own.outs (walk_by given walks number node)
  keeps-node given walks number node cases_joined handlers_joined may keeps values left are =
      let own = kinds number in
      let own_no : NodeNo = record { 0 = number } in
      keeps-then (EndsIn own.outs) (EndsIn own.outs) (enclosed given.key (given.locks number) own_no (body_walk given walks node.body own_no values left))
      (λ ended. handled walks node.on_fail values ended.outcome ended)
      (keeps-enclosed (EndsIn own.outs) given.key (given.locks number) own_no (body_walk given walks node.body own_no values left)
      (keeps-body given walks node.body own_no cases_joined may (λ m is. keeps m (in_front m (members_of node.body) (handlers_of node.on_fail) is)) values left are))
      (λ ended ends. keeps-handled walks own node.on_fail handlers_joined (λ m is. keeps m (in_behind m (members_of node.body) (handlers_of node.on_fail) is)) values are ended ends)
