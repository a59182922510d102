-- Why a journal is legal, and why others aren't.
use Rattle.std.proofs.Common.{◌≡◌, ◌<◌, ℕ, zero, suc, ap, inl, inr, List, [], ◌∷◌, ◌++◌, drop, refl, subst, arith}
use Rattle.std.specs.List.{Contains, slice_get}
use Rattle.flux_values.specs.declared.answers.Answer.{Answer}
use Rattle.flux_values.specs.declared.answers.CallResult.{CallResult}
use Rattle.flux_values.specs.declared.answers.CallResult.TheVariants as results
use Rattle.flux_values.specs.declared.answers.Mode.{Mode}
use Rattle.flux_model.specs.declared.items.FlowNo.{FlowNo}
use Rattle.flux_model.specs.declared.programs.ClassNo.{ClassNo}
use Rattle.flux_model.specs.declared.programs.Hold.{Hold}
use Rattle.flux_model.specs.Locks.{declared, HasClass, IsLocked, AreLocks}
use Rattle.flow_model.specs.declared.journals.Key.{Key}
use Rattle.flow_model.specs.declared.journals.CallMade.{CallMade}
use Rattle.flow_model.specs.declared.journals.Entry.{Entry}
use Rattle.flow_model.specs.declared.journals.Event.{Event}
use Rattle.flow_model.specs.declared.journals.Event.TheVariants.{Take, Wait, Enter, Call}
use Rattle.flow_model.specs.Flows.{flow_events}
use Rattle.flux_model.proofs.RisingHolds.{contains_none}
use Rattle.flow_model.specs.Events.{own_events, own_answers, IsNext, FollowsWalk, IsWholePath, Stands}
use Rattle.flow_model.specs.CellsAfter.{cells_after}
use Rattle.flow_model.specs.Answers.{AreAnswersRight, IsNodeAnswer}
use Rattle.flow_model.specs.Exclusion.{SectionsExclude}
use Rattle.flow_model.specs.Waits.{IsFreeOfCycles}
use Rattle.flux_examples.proofs.Ends.{nothing_past}
use Rattle.flux_examples.specs.Small.{int, no, answer, by}
use Rattle.flux_examples.specs.Legality.{failing, failed, FailedIsWhole, OthersAnswersAreRefused, BegunIsNotWhole}

-- the event of the entry at a place
abbrev event_at : ℕ → List Entry → Event
event_at place [] = Enter (no 0)
event_at zero (x ∷ entries) = x.event
event_at (suc place) (x ∷ entries) = event_at place entries

-- an entry of the journal is one of four, after as many as its place says
is_there : (Is : List Entry → Event → Type 0) (before after : List Entry) (flow : FlowNo) (event : Event)
    → Stands failed before flow event after
    → Is [] (event_at 0 failed)
    → ((a : Entry) → Is (a ∷ []) (event_at 1 failed))
    → ((a b : Entry) → Is (a ∷ b ∷ []) (event_at 2 failed))
    → ((a b c : Entry) → Is (a ∷ b ∷ c ∷ []) (event_at 3 failed)) → Is before event
is_there Is [] after flow event e one two three four = subst (λ (x : Event). Is [] x) (ap (event_at 0) e) one
is_there Is (a ∷ []) after flow event e one two three four = subst (λ (x : Event). Is (a ∷ []) x) (ap (event_at 1) e) (two a)
is_there Is (a ∷ b ∷ []) after flow event e one two three four =
    subst (λ (x : Event). Is (a ∷ b ∷ []) x) (ap (event_at 2) e) (three a b)
is_there Is (a ∷ b ∷ c ∷ []) after flow event e one two three four =
    subst (λ (x : Event). Is (a ∷ b ∷ c ∷ []) x) (ap (event_at 3) e) (four a b c)
is_there Is (a ∷ b ∷ c ∷ d ∷ before) after flow event e one two three four =
    absurd (nothing_past before (record { flow = flow; event = event }) after (ap (drop 4) e))

-- no node of the program declares anything
none_declared : (node : ℕ) → declared failing.program node ≡ []
none_declared zero = refl
none_declared (suc node) = refl

no_takes : (before after : List Entry) (flow : FlowNo) (key : Key) (mode : Mode) → Stands failed before flow (Take key mode) after → ⊥
no_takes before after flow key mode stands =
    is_there (λ front event. event ≡ Take key mode → ⊥) before after flow (Take key mode) stands
    (λ same. absurd cc) (λ a same. absurd cc) (λ a b same. absurd cc) (λ a b c same. absurd cc) refl

no_waits : (before after : List Entry) (flow : FlowNo) (key : Key) (mode : Mode) → Stands failed before flow (Wait key mode) after → ⊥
no_waits before after flow key mode stands =
    is_there (λ front event. event ≡ Wait key mode → ⊥) before after flow (Wait key mode) stands
    (λ same. absurd cc) (λ a same. absurd cc) (λ a b same. absurd cc) (λ a b c same. absurd cc) refl

-- no take is the one event of a list, nor one of four other events
no_take_first : (key : Key) (mode : Mode) (rest own : List Event) → Enter (no 0) ∷ [] ≡ own ++ Take key mode ∷ rest → ⊥
no_take_first key mode rest [] e = absurd cc
no_take_first key mode rest (x ∷ own) e = nothing_past own (Take key mode) rest (ap (drop 1) e)

no_take_among : (key : Key) (mode : Mode) (rest own : List Event) (a b c d : Event)
    → (a ≡ Take key mode → ⊥) → (b ≡ Take key mode → ⊥) → (c ≡ Take key mode → ⊥) → (d ≡ Take key mode → ⊥)
    → a ∷ b ∷ c ∷ d ∷ [] ≡ own ++ Take key mode ∷ rest → ⊥
no_take_among key mode rest [] a b c d na nb nc nd e = na cc
no_take_among key mode rest (w ∷ []) a b c d na nb nc nd e = nb cc
no_take_among key mode rest (w ∷ x ∷ []) a b c d na nb nc nd e = nc cc
no_take_among key mode rest (w ∷ x ∷ y ∷ []) a b c d na nb nc nd e = nd cc
no_take_among key mode rest (w ∷ x ∷ y ∷ z ∷ own) a b c d na nb nc nd e =
    nothing_past own (Take key mode) rest (ap (drop 4) e)

-- no flow of this setup reaches a take
pub no_take_next : (before : List Entry) (flow : ℕ) (key : Key) (mode : Mode) → IsNext failing before flow (Take key mode) → ⊥
no_take_next before zero key mode next = by_answers (own_answers before 0) next.next
  where
    by_result : (result : CallResult) (answer : Answer) (left : List Answer)
        → flow_events failing 0 (record { result = result; puts = answer.puts; emits = answer.emits } ∷ left)
        ≡ own_events before 0 ++ Take key mode ∷ next.rest → ⊥
    by_result (results.Good values) answer left e =
        no_take_among key mode next.rest (own_events before 0) _ _ _ _ (λ s. absurd cc) (λ s. absurd cc) (λ s. absurd cc) (λ s. absurd cc) e
    by_result (results.Bad code) answer left e =
        no_take_among key mode next.rest (own_events before 0) _ _ _ _ (λ s. absurd cc) (λ s. absurd cc) (λ s. absurd cc) (λ s. absurd cc) e

    by_answers : (answers : List Answer)
        → flow_events failing 0 answers ≡ own_events before 0 ++ Take key mode ∷ next.rest → ⊥
    by_answers [] e = no_take_first key mode next.rest (own_events before 0) e
    by_answers (answer ∷ left) e = by_result answer.result answer left e
no_take_next before (suc flow) key mode next =
    nothing_past (own_events before (suc flow)) (Take key mode) next.rest next.next

-- the parts of being legal
walks : (flow : ℕ) → flow < 1 → FollowsWalk failing failed flow
walks zero less = record { rest = []; prefix = refl }
walks (suc flow) less = absurd (omega (arith, less))

paths : (flow : ℕ) → flow < 1 → IsWholePath failing failed flow
paths zero less = record { finished = tt; all = refl }
paths (suc flow) less = absurd (omega (arith, less))

abbrev IsRightAfter : List Entry → FlowNo → CallMade → Type 0
IsRightAfter front flow made =
    IsNodeAnswer failing flow.0 (cells_after failing front) (slice_get failing.program.nodes made.node.0) made

-- the call of an event
abbrev made_in : Event → CallMade
made_in (Call made) = made
made_in other = record { node = no 0; args = []; answer = answer (results.Bad 1) }

answers : AreAnswersRight failing failed
answers before after flow made stands =
    is_there (λ front event. event ≡ Call made → IsRightAfter front flow made) before after flow (Call made) stands
    (λ same. absurd cc) (λ a same. right a same) (λ a b same. absurd cc) (λ a b c same. absurd cc) refl
  where
    right : (a : Entry) → event_at 1 failed ≡ Call made → IsRightAfter (a ∷ []) flow made
    right a same = subst (λ (m : CallMade). IsRightAfter (a ∷ []) flow m) (ap made_in same) refl

nothing_held : {X : Type 0} (node : ℕ) (hold : Hold) → Contains (declared failing.program node) hold → X
nothing_held node hold is =
    absurd (contains_none hold (subst (λ (holds : List Hold). Contains holds hold) (none_declared node) is))

sections : SectionsExclude failing failed
sections before after e flow other key own their apart one two =
    let node = one.node in nothing_held node.0 one.hold one.declares

free : IsFreeOfCycles failing failed
free before after e flow [] waits = no_take_next before flow waits.key waits.mode waits.next
free before after e flow (x ∷ between) (waits, rest) = no_take_next before flow waits.key waits.mode waits.next

locks : AreLocks failing.program failing.locks
locks node = record {
  rising = λ low high first second less one two. absurd cc;
  has = λ class locked. by_lock class locked;
  only = λ hold is. absurd (contains_none hold is);
  modes = λ hold is. absurd (contains_none hold is);
}
  where
    by_lock : (class : ClassNo) → IsLocked failing.program node class → HasClass [] class
    by_lock class (inl (mode, is)) = nothing_held node (record { class = class; mode = mode }) is
    by_lock class (inr (below, past)) =
        let (mode, is) = past.declares in nothing_held node (record { class = past.past; mode = mode }) is

pub failed_whole : FailedIsWhole
failed_whole = (
  record {
    locks = locks;
    flows = (omega arith, (omega arith, (omega arith, (omega arith, tt))));
    walks = walks;
    answers = answers;
    excludes = record {
      takes = λ before after flow key mode stands. absurd (no_takes before after flow key mode stands);
      sections = sections;
    };
    waits = λ before after flow key mode stands. absurd (no_waits before after flow key mode stands);
    free = free;
  },
  paths,
)

pub answers_refused : OthersAnswersAreRefused
answers_refused legal =
    let same = legal.answers (by 0 (Enter (no 0)) ∷ []) [] (record { 0 = 0 })
    (record { node = no 0; args = int 7 ∷ []; answer = answer (results.Bad 2) }) refl in
    let codes_ : results.Bad 2 ≡ results.Bad 1 = ap (λ (it : Answer). it.result) same in absurd cc

pub begun_not_whole : BegunIsNotWhole
begun_not_whole whole = let path = whole 0 (omega arith) in path.finished
