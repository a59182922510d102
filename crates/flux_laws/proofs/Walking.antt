-- Walks keep the stack: nested takes and drops are balanced, and each event may be made where it is.
use Rattle.std.proofs.Common.{◌≡◌, ℕ, inl, inr, List, [], ◌∷◌, ◌++◌, map, reverse, Option, Some, None, refl, ap, ◌∙◌}
use Rattle.std.specs.List.{flat_map}
use Rattle.flux_values.specs.declared.values.Value.{Value}
use Rattle.flux_values.specs.declared.answers.Answer.{Answer}
use Rattle.flux_model.specs.declared.programs.NodeNo.{NodeNo}
use Rattle.flux_model.specs.declared.programs.ClassNo.{ClassNo}
use Rattle.flux_model.specs.declared.programs.Hold.{Hold}
use Rattle.flux_model.specs.declared.programs.Case.{Case}
use Rattle.flux_model.specs.declared.programs.HandleArm.{HandleArm}
use Rattle.flux_model.specs.declared.programs.Body.{Body}
use Rattle.flux_model.specs.declared.programs.Body.TheVariants.{Concrete, Abstract}
use Rattle.flow_model.specs.declared.journals.Key.{Key}
use Rattle.flow_model.specs.declared.journals.Outcome.{Outcome}
use Rattle.flow_model.specs.declared.journals.Outcome.TheVariants.{Good, Over, Bad}
use Rattle.flow_model.specs.declared.journals.Event.{Event}
use Rattle.flow_model.specs.declared.journals.Event.TheVariants as events
use Rattle.flow_model.specs.Walk.{Given, Ended, Stop, finished, before_call, nowhere, Walked, Walking, done, following, then, ended_with, call, while_good, go_on, members_walk, case_walk, body_walk, leaving, enclosed, over, handler_walk, handled}
use Rattle.flux_model.specs.Children.{IsIn}
use Rattle.flux_model.specs.Leading.{members_of, handlers_of}
use Rattle.flow_model.specs.Matching.{first_case, handler_for}
use Rattle.std.proofs.lemmas.List.{map-append}
use Rattle.std.proofs.lemmas.Grind.{reverse_onto}
use Rattle.flux_laws.proofs.Members.{In}
use Rattle.flux_laws.proofs.Stacks.{Stack, taken, opened, run, IsOn, IsOpened, AreCovered, MayTake, Runs, run-append, runs-append}
use Rattle.flux_laws.proofs.Choices.{IsCaseOf, case-chosen, IsHandlerOf, handler-chosen}
use Rattle.flux_laws.proofs.Readiness.{with_takes, Rising, may-take_all}

-- where a walk stopped: finished, it has left this stack; before a call, the node called was entered last; and where
-- there is no node, there is still a stack
abbrev pub Leaves : Stack → Stack → Stop → Type 0
Leaves end now (finished ended) = now ≡ end
Leaves end now (before_call node args) = IsOpened node now
Leaves end now nowhere = IsOn now

module _ (key : ClassNo → Key) (declares : ℕ → List Hold) where
  -- a walk runs on a stack, and gives another
  pub record IsFine (start end : Stack) (walked : Walked) : Type 0 where
    pub runs : Runs key declares start walked.events
    pub leaves : Leaves end (run start walked.events) walked.stop

  -- one walk after another
  pub fine-then : (start mid end : Stack) (walked : Walked) (next : Ended → Walked) → IsFine start mid walked → ((ended : Ended) → IsFine mid end (next ended)) → IsFine start end (then walked next)
  fine-then start mid end walked next fine more = by walked.stop fine.leaves
    where
      by : (stop : Stop) → Leaves mid (run start walked.events) stop
          → IsFine start end (let m = following next stop in record { events = walked.events ++ m.events; stop = m.stop })
      by (finished ended) left = let m = more ended in record {
        runs = runs-append key declares start walked.events (next ended).events fine.runs (rw left m.runs);
        leaves = rw (run-append start walked.events (next ended).events, left) m.leaves;
      }
      by (before_call node args) left = record {
        runs = runs-append key declares start walked.events [] fine.runs tt;
        leaves = rw (run-append start walked.events []) left;
      }
      by nowhere left = record {
        runs = runs-append key declares start walked.events [] fine.runs tt;
        leaves = rw (run-append start walked.events []) left;
      }

  -- nothing happens
  fine-done : (st : Stack) (ended : Ended) → IsFine st st (done [] ended)
  fine-done st ended = record { runs = tt; leaves = refl }

  -- a walk that keeps the stack, whatever the values and the answers
  abbrev pub IsSafe : Stack → Walking → Type 0
  IsSafe st walking = (values : List Value) (left : List Answer) → IsFine st st (walking values left)

  fine-go_on : (st : Stack) (walking : Walking) → IsSafe st walking → (ended : Ended) → IsFine st st (go_on walking ended)
  fine-go_on st walking safe ended = by ended.outcome
    where
      by : (outcome : Outcome) → IsFine st st (while_good walking outcome ended.values ended.left)
      by Good = safe ended.values ended.left
      by Over = fine-done st (ended_with Over ended.left)
      by (Bad code) = fine-done st (ended_with (Bad code) ended.left)

  fine-members : (st : Stack) (walks : ℕ → Walking) (members : List NodeNo) → ((member : ℕ) → IsIn member members → IsSafe st (walks member))
      → IsSafe st (members_walk walks members)
  fine-members st walks [] safe values left = fine-done st (record { outcome = Good; values = values; left = left })
  fine-members st walks (member ∷ members) safe values left =
      fine-then st st st (walks member.0 values left) (go_on (members_walk walks members)) (safe member.0 (inl refl) values left)
      (fine-go_on st (members_walk walks members) (fine-members st walks members (λ m is. safe m (inr is))))

  -- takes that may be made one after another
  takes-run : (keyed : (class : ClassNo) → (key class).class ≡ class) (st : Stack) (holds : List Hold) → IsOn st → Rising holds
      → ((hold : Hold) → In hold holds → MayTake st (key hold.class) hold.mode)
      → Runs key declares st (map (λ hold. events.Take (key hold.class) hold.mode) holds)
  takes-run keyed st [] on rising may = tt
  takes-run keyed st (hold ∷ holds) on rising may =
      (on, may hold (inl refl), takes-run keyed (taken (key hold.class) hold.mode ∷ st) holds tt rising.1 (may-take_all key keyed st hold holds rising may))

  takes-leave : (st : Stack) (holds : List Hold) → run st (map (λ hold. events.Take (key hold.class) hold.mode) holds) ≡ with_takes key st holds
  takes-leave st [] = refl
  takes-leave st (hold ∷ holds) = takes-leave (taken (key hold.class) hold.mode ∷ st) holds

  -- drops in reverse leave what was there before the takes
  abbrev drops : List Hold → List Event
  drops holds = map (λ hold. events.Drop (key hold.class)) holds

  record AreDropped (from to : Stack) (list : List Event) : Type 0 where
    runs : Runs key declares from list
    leaves : run from list ≡ to

  dropped_more : (from mid : Stack) (hold : Hold) (list : List Event) → AreDropped from (taken (key hold.class) hold.mode ∷ mid) list
      → AreDropped from mid (list ++ events.Drop (key hold.class) ∷ [])
  dropped_more from mid hold list are = record {
    runs = runs-append key declares from list (events.Drop (key hold.class) ∷ []) are.runs (let l = are.leaves in rw l (tt, refl, tt));
    leaves = run-append from list (events.Drop (key hold.class) ∷ []) ∙ ap (λ (st : Stack). run st (events.Drop (key hold.class) ∷ [])) are.leaves;
  }

  drops-run : (st : Stack) (holds : List Hold) → AreDropped (with_takes key st holds) st (drops (reverse holds))
  drops-run st [] = record { runs = tt; leaves = refl }
  drops-run st (hold ∷ holds) =
      let turned : reverse (hold ∷ holds) ≡ reverse holds ++ hold ∷ [] = reverse_onto holds hold [] in
      let split : drops (reverse (hold ∷ holds)) ≡ drops (reverse holds) ++ events.Drop (key hold.class) ∷ [] =
      ap drops turned ∙ map-append (λ (h : Hold). events.Drop (key h.class)) (reverse holds) (hold ∷ []) in
      rw split (dropped_more (with_takes key st (hold ∷ holds)) st hold (drops (reverse holds)) (drops-run (taken (key hold.class) hold.mode ∷ st) holds))

  -- ---- bodies

  fine-case : (st : Stack) (walks : ℕ → Walking) (cases : List Case) (chosen : Option (ℕ × Case)) → IsOn st → IsCaseOf cases chosen
      → ((m : ℕ) → IsIn m (flat_map (λ c. c.members) cases) → IsSafe st (walks m)) → IsSafe st (case_walk walks chosen)
  fine-case st walks cases None on is safe values left = fine-done st (ended_with (Bad 256) left)
  fine-case st walks cases (Some (place, case)) on is safe values left =
      let fine = fine-members st walks case.members (λ m among. safe m (is m among)) values left in
      record { runs = (on, tt, fine.runs); leaves = fine.leaves }

  fine-call : (st : Stack) (node : NodeNo) → IsOn st → IsOpened node st → IsSafe st (call node)
  fine-call st node on last values [] = record { runs = tt; leaves = last }
  fine-call st node on last values (answer ∷ left) = record { runs = (on, last, tt); leaves = refl }

  -- a node's body
  pub fine-body : (st : Stack) (given : Given) (walks : ℕ → Walking) (body : Body) (node : NodeNo) → IsOn st → IsOpened node st
      → ((m : ℕ) → IsIn m (members_of body) → IsSafe st (walks m)) → IsSafe st (body_walk given walks body node)
  fine-body st given walks (Concrete name) node on last safe values left = fine-call st node on last values left
  fine-body st given walks (Abstract cases) node on last safe values left =
      fine-case st walks cases (first_case (λ case. given.matches case.patterns values) 1 cases) on
      (case-chosen (λ case. given.matches case.patterns values) 1 cases) safe values left

  fine-over : (st : Stack) (outcome : Outcome) (left : List Answer) → IsFine st st (over outcome left)
  fine-over st Good left = fine-done st (ended_with Over left)
  fine-over st Over left = fine-done st (ended_with Over left)
  fine-over st (Bad code) left = fine-done st (ended_with (Bad code) left)

  fine-handler : (st : Stack) (walks : ℕ → Walking) (arms : List HandleArm) (chosen : Option NodeNo) → IsHandlerOf arms chosen
      → ((m : ℕ) → IsIn m (handlers_of arms) → IsSafe st (walks m)) → (code : ℕ) → IsSafe st (handler_walk walks chosen code)
  fine-handler st walks arms None is safe code values left = fine-done st (ended_with (Bad code) left)
  fine-handler st walks arms (Some handler) is safe code values left =
      fine-then st st st (walks handler.0 values left) (λ ended. over ended.outcome ended.left) (safe handler.0 is values left) (λ ended. fine-over st ended.outcome ended.left)

  -- a handler's walk, if there is one to run
  pub fine-handled : (st : Stack) (walks : ℕ → Walking) (arms : List HandleArm) → ((m : ℕ) → IsIn m (handlers_of arms) → IsSafe st (walks m))
      → (values : List Value) (outcome : Outcome) (ended : Ended) → IsFine st st (handled walks arms values outcome ended)
  fine-handled st walks arms safe values Good ended = fine-done st ended
  fine-handled st walks arms safe values Over ended = fine-done st ended
  fine-handled st walks arms safe values (Bad code) ended = fine-handler st walks arms (handler_for arms code) (handler-chosen arms code) safe code values ended.left

  -- ---- a node: its takes, `enter`, the body, `exit` and the drops

  module _ (keyed : (class : ClassNo) → (key class).class ≡ class) (st : Stack) (holds : List Hold) (node : NodeNo) where
    -- within the node
    abbrev pub inside : Stack
    inside = opened node ∷ with_takes key st holds

    fine-leaving : (ended : Ended) → IsFine inside st (leaving key holds node ended)
    fine-leaving ended = let d = drops-run st holds in record { runs = (tt, refl, d.runs); leaves = d.leaves }

    -- the body between takes and drops
    pub fine-enclosed : IsOn st → IsOn (with_takes key st holds) → Rising holds → ((hold : Hold) → In hold holds → MayTake st (key hold.class) hold.mode)
        → AreCovered key (with_takes key st holds) (declares node.0) → (body : Walked) → IsFine inside inside body → IsFine st st (enclosed key holds node body)
    fine-enclosed on within rising may covered body fine =
        let left = fine-then inside inside st body (leaving key holds node) fine fine-leaving in
        let taken_all = takes-leave st holds in
        let list = map (λ hold. events.Take (key hold.class) hold.mode) holds in
        let rest = events.Enter node ∷ (then body (leaving key holds node)).events in
        record {
          runs = runs-append key declares st list rest (takes-run keyed st holds on rising may) (rw taken_all (within, covered, left.runs));
          leaves = rw (run-append st list rest, taken_all) left.leaves;
        }
