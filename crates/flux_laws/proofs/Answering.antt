-- What a walk does with answers: its calls have the first ones, in order; and with more answers it goes on where it
-- stopped before a call.
use Rattle.std.proofs.Common.{◌≡◌, ℕ, zero, suc, List, [], ◌∷◌, ◌++◌, map, reverse, Option, Some, None, refl, sym, ap, ◌∙◌, append_assoc}
use Rattle.std.specs.List.{flat_map, slice_get}
use Rattle.std.proofs.lemmas.List.{append-nil}
use Rattle.std.proofs.lemmas.Grind.{flat_map-append}
use Rattle.flux_values.specs.declared.values.Value.{Value}
use Rattle.flux_values.specs.declared.answers.Answer.{Answer}
use Rattle.flux_values.specs.declared.answers.CallResult.{CallResult}
use Rattle.flux_values.specs.declared.answers.CallResult.TheVariants as results
use Rattle.flux_model.specs.declared.programs.Node.{Node}
use Rattle.flux_model.specs.declared.programs.NodeNo.{NodeNo}
use Rattle.flux_model.specs.declared.programs.ClassNo.{ClassNo}
use Rattle.flux_model.specs.declared.programs.Hold.{Hold}
use Rattle.flux_model.specs.declared.programs.Case.{Case}
use Rattle.flux_model.specs.declared.programs.HandleArm.{HandleArm}
use Rattle.flux_model.specs.declared.programs.Body.{Body}
use Rattle.flux_model.specs.declared.programs.Body.TheVariants.{Concrete, Abstract}
use Rattle.flow_model.specs.declared.journals.Key.{Key}
use Rattle.flow_model.specs.declared.journals.Outcome.{Outcome}
use Rattle.flow_model.specs.declared.journals.Outcome.TheVariants.{Good, Over, Bad}
use Rattle.flow_model.specs.declared.journals.Event.{Event}
use Rattle.flow_model.specs.declared.journals.Event.TheVariants as events
use Rattle.flow_model.specs.Matching.{first_case, handler_for}
use Rattle.flow_model.specs.Events.{answer_in}
use Rattle.flux_model.specs.Nested.{nested, for_node}
use Rattle.flow_model.specs.Walk.{Given, Ended, Stop, finished, before_call, nowhere, Walked, Walking, lost, done, following, then, ended_with, ended_by, call, while_good, go_on, members_walk, case_walk, body_walk, leaving, enclosed, over, handler_walk, handled, walk_by}

-- the answers in the calls of events
abbrev pub answers_in : List Event → List Answer
answers_in list = flat_map answer_in list

-- the event of a call
abbrev pub call_with : NodeNo → List Value → Answer → Event
call_with node args answer = events.Call (record { node = node; args = args; answer = answer })

-- events before those of a walk
abbrev pub prefixed : List Event → Walked → Walked
prefixed list walked = record { events = list ++ walked.events; stop = walked.stop }

-- a walk goes on with another event
pub record GoesOn (first : List Event) (event : Event) (longer : List Event) : Type 0 where
  pub rest : List Event
  pub whole : longer ≡ first ++ event ∷ rest

-- one answer more, and others
module _ (answer : Answer) (more : List Answer) where
  -- an end with more answers left
  abbrev pub with_more : Ended → Ended
  with_more ended = record { outcome = ended.outcome; values = ended.values; left = ended.left ++ answer ∷ more }

  -- a walk's answers that are left, and what the walk with more answers does, by where it stopped
  abbrev pub Stopped : List Answer → Walked → Walked → Stop → Type 0
  Stopped unused walked longer (finished ended) = (unused ≡ ended.left) × (longer.events ≡ walked.events) × (longer.stop ≡ finished (with_more ended))
  Stopped unused walked longer (before_call node args) = (unused ≡ []) × GoesOn walked.events (call_with node args answer) longer.events
  Stopped unused walked longer nowhere = (longer.events ≡ walked.events) × (longer.stop ≡ nowhere)

  -- a walk on answers, and the same with more of them
  pub record Uses (left : List Answer) (walked longer : Walked) : Type 0 where
    pub unused : List Answer
    pub used : left ≡ answers_in walked.events ++ unused
    pub stopped : Stopped unused walked longer walked.stop

  stopped-prefixed : (list : List Event) (unused : List Answer) (walked longer : Walked) (stop : Stop) → Stopped unused walked longer stop
      → Stopped unused (prefixed list walked) (prefixed list longer) stop
  stopped-prefixed list unused walked longer (finished ended) (left, same, stop) = (left, ap (λ es. list ++ es) same, stop)
  stopped-prefixed list unused walked longer (before_call node args) (none, on) = (
    none,
    record {
      rest = on.rest;
      whole = ap (λ es. list ++ es) on.whole ∙ sym (append_assoc list walked.events (call_with node args answer ∷ on.rest));
    },
  )
  stopped-prefixed list unused walked longer nowhere (same, stop) = (ap (λ es. list ++ es) same, stop)

  uses-prefixed : (list : List Event) (left mid : List Answer) (walked longer : Walked) → left ≡ answers_in list ++ mid → Uses mid walked longer
      → Uses left (prefixed list walked) (prefixed list longer)
  uses-prefixed list left mid walked longer split uses = record {
    unused = uses.unused;
    used = split ∙ ap (λ as_. answers_in list ++ as_) uses.used ∙ sym (append_assoc (answers_in list) (answers_in walked.events) uses.unused)
        ∙ ap (λ as_. as_ ++ uses.unused) (sym (flat_map-append answer_in list walked.events));
    stopped = stopped-prefixed list uses.unused walked longer walked.stop uses.stopped;
  }

  uses-then : (left : List Answer) (walked longer : Walked) (next : Ended → Walked) → Uses left walked longer
      → ((ended : Ended) → Uses ended.left (next ended) (next (with_more ended))) → Uses left (then walked next) (then longer next)
  uses-then left walked longer next uses then_uses = by walked.stop uses.stopped
    where
      by : (stop : Stop) → Stopped uses.unused walked longer stop → Uses left (prefixed walked.events (following next stop)) (then longer next)
      by (finished ended) (same_left, same_events, same_stop) =
          let together : then longer next ≡ prefixed walked.events (next (with_more ended)) = λ i. prefixed (same_events i) (following next (same_stop i)) in
          rw together (uses-prefixed walked.events left ended.left (next ended) (next (with_more ended))
          (uses.used ∙ ap (λ as_. answers_in walked.events ++ as_) same_left) (then_uses ended))
      by (before_call node args) (none, on) = record {
        unused = uses.unused;
        used = uses.used ∙ ap (λ es. answers_in es ++ uses.unused) (sym (append-nil walked.events));
        stopped = (
          none,
          record {
            rest = on.rest ++ (following next longer.stop).events;
            whole = let x = (following next longer.stop).events in
                ap (λ es. es ++ x) on.whole ∙ append_assoc walked.events (call_with node args answer ∷ on.rest) x
                ∙ ap (λ es. es ++ call_with node args answer ∷ (on.rest ++ x)) (sym (append-nil walked.events));
          },
        );
      }
      by nowhere (same, stop) = record {
        unused = uses.unused;
        used = uses.used ∙ ap (λ es. answers_in es ++ uses.unused) (sym (append-nil walked.events));
        stopped = (λ i. same i ++ (following next (stop i)).events, ap (λ s. (following next s).stop) stop);
      }

  -- ---- parts of a walk

  -- whatever the values and the answers that are left
  abbrev pub UsesAnswers : Walking → Type 0
  UsesAnswers walking = (values : List Value) (left : List Answer) → Uses left (walking values left) (walking values (left ++ answer ∷ more))

  uses-done : (ended : Ended) → Uses ended.left (done [] ended) (done [] (with_more ended))
  uses-done ended = record { unused = ended.left; used = refl; stopped = (refl, refl, refl) }

  uses-go_on : (walking : Walking) → UsesAnswers walking → (ended : Ended) → Uses ended.left (go_on walking ended) (go_on walking (with_more ended))
  uses-go_on walking uses ended = by ended.outcome
    where
      by : (outcome : Outcome) → Uses ended.left (while_good walking outcome ended.values ended.left) (while_good walking outcome ended.values (ended.left ++ answer ∷ more))
      by Good = uses ended.values ended.left
      by Over = uses-done (ended_with Over ended.left)
      by (Bad code) = uses-done (ended_with (Bad code) ended.left)

  uses-members : (walks : ℕ → Walking) → ((m : ℕ) → UsesAnswers (walks m)) → (members : List NodeNo) → UsesAnswers (members_walk walks members)
  uses-members walks uses [] values left = uses-done (record { outcome = Good; values = values; left = left })
  uses-members walks uses (member ∷ members) values left =
      uses-then left (walks member.0 values left) (walks member.0 values (left ++ answer ∷ more)) (go_on (members_walk walks members)) (uses member.0 values left)
      (uses-go_on (members_walk walks members) (uses-members walks uses members))

  uses-case : (walks : ℕ → Walking) → ((m : ℕ) → UsesAnswers (walks m)) → (chosen : Option (ℕ × Case)) → UsesAnswers (case_walk walks chosen)
  uses-case walks uses None values left = uses-done (ended_with (Bad 256) left)
  uses-case walks uses (Some (place, case)) values left =
      uses-prefixed (events.Choose place ∷ []) left left (members_walk walks case.members values left) (members_walk walks case.members values (left ++ answer ∷ more)) refl
      (uses-members walks uses case.members values left)

  uses-call : (node : NodeNo) → UsesAnswers (call node)
  uses-call node values [] = record { unused = []; used = refl; stopped = (refl, record { rest = []; whole = refl }) }
  uses-call node values (first ∷ left) = record { unused = left; used = refl; stopped = ended first.result }
    where
      ended : (result : CallResult) → Stopped left (done (call_with node values first ∷ []) (ended_by result left))
          (done (call_with node values first ∷ []) (ended_by result (left ++ answer ∷ more))) (finished (ended_by result left))
      ended (results.Good out) = (refl, refl, refl)
      ended (results.Bad code) = (refl, refl, refl)

  uses-body : (given : Given) (walks : ℕ → Walking) → ((m : ℕ) → UsesAnswers (walks m)) → (body : Body) (node : NodeNo) → UsesAnswers (body_walk given walks body node)
  uses-body given walks uses (Concrete name) node values left = uses-call node values left
  uses-body given walks uses (Abstract cases) node values left = uses-case walks uses (first_case (λ case. given.matches case.patterns values) 1 cases) values left

  uses-over : (outcome : Outcome) (left : List Answer) → Uses left (over outcome left) (over outcome (left ++ answer ∷ more))
  uses-over Good left = uses-done (ended_with Over left)
  uses-over Over left = uses-done (ended_with Over left)
  uses-over (Bad code) left = uses-done (ended_with (Bad code) left)

  uses-handler : (walks : ℕ → Walking) → ((m : ℕ) → UsesAnswers (walks m)) → (chosen : Option NodeNo) (code : ℕ) → UsesAnswers (handler_walk walks chosen code)
  uses-handler walks uses None code values left = uses-done (ended_with (Bad code) left)
  uses-handler walks uses (Some handler) code values left =
      uses-then left (walks handler.0 values left) (walks handler.0 values (left ++ answer ∷ more)) (λ ended. over ended.outcome ended.left) (uses handler.0 values left)
      (λ ended. uses-over ended.outcome ended.left)

  uses-handled : (walks : ℕ → Walking) → ((m : ℕ) → UsesAnswers (walks m)) → (arms : List HandleArm) (values : List Value) (outcome : Outcome) (ended : Ended)
      → Uses ended.left (handled walks arms values outcome ended) (handled walks arms values outcome (with_more ended))
  uses-handled walks uses arms values Good ended = uses-done ended
  uses-handled walks uses arms values Over ended = uses-done ended
  uses-handled walks uses arms values (Bad code) ended = uses-handler walks uses (handler_for arms code) code values ended.left

  -- there are no answers in drops and takes
  none_in-drops : (key : ClassNo → Key) (holds : List Hold) → answers_in (map (λ hold. events.Drop (key hold.class)) holds) ≡ []
  none_in-drops key [] = refl
  none_in-drops key (hold ∷ holds) = none_in-drops key holds

  none_in-takes : (key : ClassNo → Key) (holds : List Hold) → answers_in (map (λ hold. events.Take (key hold.class) hold.mode) holds) ≡ []
  none_in-takes key [] = refl
  none_in-takes key (hold ∷ holds) = none_in-takes key holds

  uses-leaving : (key : ClassNo → Key) (holds : List Hold) (node : NodeNo) (ended : Ended) → Uses ended.left (leaving key holds node ended) (leaving key holds node (with_more ended))
  uses-leaving key holds node ended = record {
    unused = ended.left;
    used = ap (λ as_. as_ ++ ended.left) (sym (none_in-drops key (reverse holds)));
    stopped = (refl, refl, refl);
  }

  uses-enclosed : (key : ClassNo → Key) (holds : List Hold) (node : NodeNo) (left : List Answer) (body longer : Walked) → Uses left body longer
      → Uses left (enclosed key holds node body) (enclosed key holds node longer)
  uses-enclosed key holds node left body longer uses =
      let inside = uses-prefixed (events.Enter node ∷ []) left left (then body (leaving key holds node)) (then longer (leaving key holds node)) refl
      (uses-then left body longer (leaving key holds node) uses (uses-leaving key holds node)) in
      uses-prefixed (map (λ hold. events.Take (key hold.class) hold.mode) holds) left left
      (prefixed (events.Enter node ∷ []) (then body (leaving key holds node))) (prefixed (events.Enter node ∷ []) (then longer (leaving key holds node)))
      (ap (λ as_. as_ ++ left) (sym (none_in-takes key holds))) inside

  -- ---- walks

  uses-node : (given : Given) (walks : ℕ → Walking) → ((m : ℕ) → UsesAnswers (walks m)) → (number : ℕ) (node : Node) → UsesAnswers (walk_by given walks number node)
  uses-node given walks uses number node values left =
      let own : NodeNo = record { 0 = number } in
      uses-then left (enclosed given.key (given.locks number) own (body_walk given walks node.body own values left))
      (enclosed given.key (given.locks number) own (body_walk given walks node.body own values (left ++ answer ∷ more)))
      (λ ended. handled walks node.on_fail values ended.outcome ended)
      (uses-enclosed given.key (given.locks number) own left (body_walk given walks node.body own values left) (body_walk given walks node.body own values (left ++ answer ∷ more))
      (uses-body given walks uses node.body own values left))
      (λ ended. uses-handled walks uses node.on_fail values ended.outcome ended)

  uses-lost : UsesAnswers (λ values left. lost)
  uses-lost values left = record { unused = left; used = refl; stopped = (refl, refl) }

  uses-found : (given : Given) (walks : ℕ → Walking) → ((m : ℕ) → UsesAnswers (walks m)) → (number : ℕ) (found : Option Node)
      → UsesAnswers (for_node (λ values left. lost) (walk_by given walks number) found)
  uses-found given walks uses number None values left = uses-lost values left
  uses-found given walks uses number (Some node) values left = uses-node given walks uses number node values left

  -- the walk of a node, through however many nested nodes
  pub uses-nested : (given : Given) (nodes : List Node) (depth number : ℕ) → UsesAnswers (nested (λ values left. lost) (walk_by given) nodes depth number)
  uses-nested given nodes zero number values left = uses-lost values left
  uses-nested given nodes (suc depth) number values left =
      uses-found given (nested (λ vs ls. lost) (walk_by given) nodes depth) (λ m vs ls. uses-nested given nodes depth m vs ls) number (slice_get nodes number) values left
