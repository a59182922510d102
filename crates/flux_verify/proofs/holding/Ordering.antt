-- The law of verified plans.
use Rattle.std.proofs.Common.{◌≡◌, ◌⊎◌, inl, inr, ℕ, zero, suc, ◌<◌, List, [], ◌∷◌, ◌++◌, Option, Some, None, refl, sym, ap, ◌∙◌, subst}
use Rattle.std.specs.List.{slice_get, Contains}
use Rattle.std.proofs.lemmas.List.Elements.{Contains-append_left, Contains-append_right, Contains-append_cases}
use Rattle.flux_values.specs.declared.values.Value.{Value}
use Rattle.flux_values.specs.declared.answers.Mode.{Mode}
use Rattle.flux_values.specs.declared.answers.Answer.{Answer}
use Rattle.flux_model.specs.declared.programs.NodeNo.{NodeNo}
use Rattle.flux_model.specs.declared.programs.ClassNo.{ClassNo}
use Rattle.flux_model.specs.declared.programs.Hold.{Hold}
use Rattle.flux_model.specs.declared.programs.HandleArm.{HandleArm}
use Rattle.flow_model.specs.declared.journals.Key.{Key}
use Rattle.flow_model.specs.declared.journals.Event.{Event}
use Rattle.flow_model.specs.declared.journals.Outcome.{Outcome}
use Rattle.flow_model.specs.declared.journals.Outcome.TheVariants.{Good, Over, Bad}
use Rattle.flow_model.specs.Exclusion.{held_after}
use Rattle.flow_model.specs.Matching.{handler_for}
use Rattle.flux_model.specs.Locks.{HasAtLeast}
use Rattle.flux_model.proofs.RisingHolds.{contains_none}
use Rattle.flux_plan.specs.declared.plans.Plan.{Plan}
use Rattle.flux_plan.specs.declared.plans.Segment.{Segment}
use Rattle.flux_plan.specs.declared.plans.Arm.{Arm}
use Rattle.flux_plan.specs.declared.plans.Instr.{Instr}
use Rattle.flux_plan.specs.declared.plans.Instr.TheVariants.{Take, Enter, Choose, Go, Leave, Call, Exit, Drop, Handle, EndHandle, Return}
use Rattle.flux_plan.specs.declared.stacks.Frame.{Frame}
use Rattle.flux_plan.specs.Machine.{State, Step, silent, acts, calls, ended, stuck, takes, Matches, first_arm, chosen, handled, gone, handles, returned, obeyed, step_of, step_in, step, answered, beginning}
use Rattle.flux_plan.specs.Runs.{Ran, Standing, on_the_way, at_call, at_end, nowhere, run, run_step, run_call, stands, after_event}
use Rattle.flux_plan.specs.Reading.{Reading}
use Rattle.flux_plan.specs.Leading.{takes_of}
use Rattle.flux_plan.specs.Faulty.{IsVerified}
use Rattle.flux_verify.specs.Holding.{HoldsAtLeast, IsAboveHeld, VerifiedPlansTakeInOrder}
use Rattle.flux_plan.proofs.Readings.{AreBelowOne, Goes, take}
use Rattle.flux_plan.proofs.Placing.{placed_goes}
use Rattle.flux_plan.proofs.ReachedPlaces.{start_placed}
use Rattle.flux_verify.proofs.holding.Modes.{modes_of, mode_held, held_by}
use Rattle.flux_verify.proofs.holding.Segments.{contains_take}
use Rattle.flux_verify.proofs.holding.Frames.{IsAboveAll, above_all, HeldAt, holds_none}
use Rattle.flux_verify.proofs.holding.Moving.{AreClosed, AreHolding, all_of, Leaves, step_leaves}

-- ---- runs

module _ (plan : Plan) (verified : IsVerified plan) (key : ClassNo → Key) (matches : Matches) where
  -- after events from frames that hold these, frames hold what is held
  record Comes (all : List (List Hold)) (events : List Event) (next : State) : Type 0 where
    pub now : List (List Hold)
    pub are : AreHolding plan next.frames now
    pub same : (k : Key) → held_after k (modes_of key k (all_of all)) events ≡ modes_of key k (all_of now)

  abbrev Leads : List (List Hold) → Ran → Type 0
  Leads all ran = (events : List Event) (next : State) (left : List Answer) → ran ≡ record { events = events; standing = on_the_way next left } → Comes all events next

  halts : (all : List (List Hold)) (standing : Standing) → ((next : State) (left : List Answer) → standing ≡ on_the_way next left → AreHolding plan next.frames all) → Leads all (stands standing)
  halts all standing holding events next left e =
      let list : [] ≡ events = ap (λ (r : Ran). r.events) e in
      record {
        now = all;
        are = holding next left (ap (λ (r : Ran). r.standing) e);
        same = λ k. ap (held_after k (modes_of key k (all_of all))) (sym list);
      }

  with_event : (event : Event) (ran : Ran) (all now : List (List Hold))
      → ((k : Key) (events : List Event) → held_after k (modes_of key k (all_of all)) (event ∷ events) ≡ held_after k (modes_of key k (all_of now)) events)
      → Leads now ran → Leads all (after_event event ran)
  with_event event ran all now same leads events next left e =
      let list : event ∷ ran.events ≡ events = ap (λ (r : Ran). r.events) e in
      let come = leads ran.events next left (ap (λ (s : Standing). let r : Ran = record { events = ran.events; standing = s } in r) (ap (λ (r : Ran). r.standing) e)) in
      record {
        now = come.now;
        are = come.are;
        same = λ k. ap (held_after k (modes_of key k (all_of all))) (sym list) ∙ same k ran.events ∙ come.same k;
      }

  in_silence : (ran : Ran) (all now : List (List Hold)) → all_of now ≡ all_of all → Leads now ran → Leads all ran
  in_silence ran all now same leads events next left e =
      let come = leads events next left e in
      record {
        now = come.now;
        are = come.are;
        same = λ k. ap (λ (holds : List Hold). held_after k (modes_of key k holds) events) (sym same) ∙ come.same k;
      }

  run_holds : (steps : ℕ) (state : State) (answers : List Answer) (all : List (List Hold)) → AreHolding plan state.frames all → Leads all (run plan.segments key matches steps state answers)
  run_holds zero state answers all are = halts all (on_the_way state answers) (λ next left e. let same : state ≡ next = cc in subst (λ (s : State). AreHolding plan s.frames all) same are)
  run_holds (suc steps) state answers all are =
      by (step plan.segments matches state) (step_leaves plan verified key matches state all are) (λ s l h p. run_holds steps s l h p)
    where
      call : (node : NodeNo) (own : List Answer) → ((answer : Answer) → let next = answered state answer in AreHolding plan next.frames all)
          → ((s : State) (l : List Answer) (h : List (List Hold)) → AreHolding plan s.frames h → Leads h (run plan.segments key matches steps s l))
          → Leads all (run_call (run plan.segments key matches steps) state node own)
      call node [] leaves more = halts all (at_call node state.values) (λ next left e. absurd cc)
      call node (answer ∷ left) leaves more = with_event _ _ all all (λ k events. refl) (more (answered state answer) left all (leaves answer))

      by : (own : Step) → Leaves plan verified key matches state all own
          → ((s : State) (l : List Answer) (h : List (List Hold)) → AreHolding plan s.frames h → Leads h (run plan.segments key matches steps s l))
          → Leads all (run_step (run plan.segments key matches steps) key state answers own)
      by (silent next) leaves more = in_silence _ all leaves.now leaves.same (more next answers leaves.now leaves.are)
      by (acts act next) leaves more = with_event _ _ all leaves.now leaves.same (more next answers leaves.now leaves.are)
      by (calls node) leaves more = call node answers leaves more
      by ended leaves more = halts all at_end (λ next left e. absurd cc)
      by stuck leaves more = halts all nowhere (λ next left e. absurd cc)

-- ---- takes

module _ (matches : Matches) (exit : ℕ) (frame : Frame) (below : List Frame) (values : List Value) (class : ClassNo) (mode : Mode) (after : State) where
  chosen_not : (outcome : Outcome) (found : Option (ℕ × Arm)) → chosen exit frame below values outcome found ≡ acts (takes class mode) after → ⊥
  chosen_not outcome None e = cc
  chosen_not outcome (Some (n, arm)) e = cc

  gone_not : (outcome : Outcome) (node : NodeNo) → gone exit frame below values node outcome ≡ acts (takes class mode) after → ⊥
  gone_not Good node e = cc
  gone_not Over node e = cc
  gone_not (Bad code) node e = cc

  handled_not : (code : ℕ) (found : Option NodeNo) → handled frame below values code found ≡ acts (takes class mode) after → ⊥
  handled_not code None e = cc
  handled_not code (Some node) e = cc

  handles_not : (outcome : Outcome) (arms : List HandleArm) → handles frame below values arms outcome ≡ acts (takes class mode) after → ⊥
  handles_not Good arms e = cc
  handles_not Over arms e = cc
  handles_not (Bad code) arms e = handled_not code (handler_for arms code) e

  returned_not : (outcome : Outcome) (frames : List Frame) → returned frames values outcome ≡ acts (takes class mode) after → ⊥
  returned_not outcome [] e = cc
  returned_not outcome (f ∷ frames) e = cc

  -- only `Take` takes
  is_take : (outcome : Outcome) (instr : Instr) → obeyed matches exit frame below values outcome instr ≡ acts (takes class mode) after → instr ≡ Take class mode
  is_take outcome (Take c m) e =
      let class_is : c ≡ class = cc in
      let mode_is : m ≡ mode = cc in
      λ i. Take (class_is i) (mode_is i)
  is_take outcome Enter e = absurd cc
  is_take outcome (Choose arms) e = absurd (chosen_not outcome (first_arm (λ patterns. matches patterns values) 1 arms) e)
  is_take outcome (Go node) e = absurd (gone_not outcome node e)
  is_take outcome Leave e = absurd cc
  is_take outcome Call e = absurd cc
  is_take outcome Exit e = absurd cc
  is_take outcome (Drop c) e = absurd cc
  is_take outcome (Handle arms) e = absurd (handles_not outcome arms e)
  is_take outcome EndHandle e = absurd cc
  is_take outcome Return e = absurd (returned_not outcome below e)

-- where a take comes next in a segment, its class is above all that the frame holds
above_own : (segment : Segment) (exit place : ℕ) (reading : Reading) (class : ClassNo) (mode : Mode) (next : Reading) (held : List Hold)
    → Goes exit place reading (Take class mode) next → HeldAt segment place reading held → IsAboveAll held class
above_own segment exit place reading class mode next held (take below) (same, falling, taken) = above_all class held (subst (AreBelowOne class) same below) falling

-- a take is of what is held, or above it
abbrev MayTake : List Hold → Hold → Type 0
MayTake held hold = HasAtLeast held hold ⊎ IsAboveAll held hold.class

may_both : (held others : List Hold) (hold : Hold) → IsAboveAll held hold.class ⊎ HasAtLeast held hold → MayTake others hold → MayTake (held ++ others) hold
may_both held others hold (inr has) more = inl (record { mode = has.mode; has = Contains-append_left held others _ has.has; enough = has.enough })
may_both held others hold (inl above) (inl has) = inl (record { mode = has.mode; has = Contains-append_right held others _ has.has; enough = has.enough })
may_both held others hold (inl above) (inr all) = inr (λ own is. elim (Contains-append_cases held others own is) [ inl mine ↦ above own mine | inr more ↦ all own more ])

turned : {A B : Type 0} → A ⊎ B → B ⊎ A
turned (inl a) = inr a
turned (inr b) = inl b

-- a node may take what it takes over all that is closed at it
module _ (plan : Plan) where
  may_take_over : (node : ℕ) (hold : Hold) → Contains (takes_of plan.segments node) hold → (all : List (List Hold)) → AreClosed plan node all → MayTake (all_of all) hold
  may_take_over node hold taken [] closed = inr (λ own is. absurd (contains_none own is))
  may_take_over node hold taken (held ∷ all) (own, closed) =
      may_both held (all_of all) hold (turned (own node (record { between = []; way = refl }) hold taken)) (may_take_over node hold taken all closed)

  -- where a take comes next, it is of what is held, or above it
  may_take : IsVerified plan → (matches : Matches) (values : List Value) (outcome : Outcome) (hold : Hold) (after : State) (frames : List Frame) (all : List (List Hold)) → AreHolding plan frames all
      → step plan.segments matches (record { frames = frames; values = values; outcome = outcome }) ≡ acts (takes hold.class hold.mode) after → MayTake (all_of all) hold
  may_take verified matches values outcome hold after [] all are made = absurd cc
  may_take verified matches values outcome hold after (frame ∷ below) [] are made = absurd are
  may_take verified matches values outcome hold after (frame ∷ below) (held ∷ all) (own, closed, are) made =
      let placed = own.placed in
      let on = placed_goes plan verified frame.node.0 frame.place placed in
      let in_segment : step_of matches placed.segment.exit frame below values outcome (slice_get placed.segment.code frame.place) ≡ acts (takes hold.class hold.mode) after
      = ap (step_in matches frame below values outcome) (sym placed.is) ∙ made in
      let in_instr : obeyed matches placed.segment.exit frame below values outcome on.instr ≡ acts (takes hold.class hold.mode) after
      = ap (step_of matches placed.segment.exit frame below values outcome) (sym on.is) ∙ in_segment in
      let is = is_take matches placed.segment.exit frame below values hold.class hold.mode after outcome on.instr in_instr in
      let taken : Contains (takes_of plan.segments frame.node.0) hold = rw placed.is (contains_take placed.segment.code frame.place hold (on.is ∙ ap Some is)) in
      let goes = subst (λ (i : Instr). Goes placed.segment.exit frame.place placed.reading i on.next) is on.goes in
      may_both held (all_of all) hold
      (inl (above_own placed.segment placed.segment.exit frame.place placed.reading hold.class hold.mode on.next held goes own.here))
      (may_take_over frame.node.0 hold taken all closed)

-- ---- the law

pub takes_in_order : VerifiedPlansTakeInOrder
takes_in_order plan verified key own matches values answers left steps events state after class mode reached made =
    by (may_take plan verified matches state.values state.outcome hold after state.frames come.now come.are made)
  where
    hold : Hold
    hold = record { class = class; mode = mode }

    come : Comes plan verified key matches ([] ∷ []) events state
    come = run_holds plan verified key matches steps (beginning plan values) answers ([] ∷ [])
        (holds_none plan plan.target.0 (start_placed plan verified), tt, tt) events state left reached

    same : (other : ClassNo) → held_after (key other) [] events ≡ modes_of key (key other) (all_of come.now)
    same other = come.same (key other)

    by : MayTake (all_of come.now) (record { class = class; mode = mode }) → HoldsAtLeast key events class mode ⊎ IsAboveHeld key events class
    by (inl has) = inl (record {
      own = has.mode;
      held = rw (same class) (mode_held key (all_of come.now) (record { class = class; mode = has.mode }) has.has);
      enough = has.enough;
    })
    by (inr above) = inr (λ other some.
        let held = held_by key own (all_of come.now) other (λ none. some (same other ∙ none)) in
        let lt = above held.hold held.held in
        subst (λ (c : ClassNo). c.0 < class.0) held.same lt)
