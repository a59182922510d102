-- After each step of a verified plan frames hold what is held after its events.
use Rattle.std.proofs.Common.{◌≡◌, inr, ℕ, ◌+◌, List, [], ◌∷◌, ◌++◌, Option, Some, None, refl, sym, ap, subst}
use Rattle.std.specs.Prelude.{⊤, IfSome}
use Rattle.std.specs.List.{AllByRecursion}
use Rattle.flux_values.specs.declared.values.Value.{Value}
use Rattle.flux_values.specs.declared.answers.Answer.{Answer}
use Rattle.flux_values.specs.declared.answers.CallResult.{CallResult}
use Rattle.flux_values.specs.declared.answers.CallResult.TheVariants as results
use Rattle.flux_model.specs.declared.programs.NodeNo.{NodeNo}
use Rattle.flux_model.specs.declared.programs.ClassNo.{ClassNo}
use Rattle.flux_model.specs.declared.programs.Hold.{Hold}
use Rattle.flow_model.specs.declared.journals.Key.{Key}
use Rattle.flow_model.specs.declared.journals.Event.{Event}
use Rattle.flow_model.specs.declared.journals.Outcome.{Outcome}
use Rattle.flow_model.specs.declared.journals.Outcome.TheVariants.{Good, Over, Bad}
use Rattle.flux_model.specs.Children.{IsIn}
use Rattle.flow_model.specs.Matching.{handler_for}
use Rattle.flow_model.specs.Exclusion.{held_after}
use Rattle.flux_model.proofs.RisingHolds.{contains_none}
use Rattle.flux_plan.specs.declared.plans.Plan.{Plan}
use Rattle.flux_plan.specs.declared.plans.Segment.{Segment}
use Rattle.flux_plan.specs.declared.plans.Arm.{Arm}
use Rattle.flux_plan.specs.declared.plans.Instr.{Instr}
use Rattle.flux_plan.specs.declared.plans.Instr.TheVariants.{Take, Enter, Choose, Go, Leave, Call, Exit, Drop, Handle, EndHandle, Return}
use Rattle.flux_plan.specs.declared.stacks.Frame.{Frame}
use Rattle.flux_plan.specs.Machine.{State, Act, Step, silent, acts, calls, ended, stuck, Matches, first_arm, chosen, handled, obeyed, step_of, step_in, step, answered, resulting}
use Rattle.flux_plan.specs.Runs.{event_of}
use Rattle.flux_plan.specs.Leading.{leads_from}
use Rattle.flux_plan.specs.Faulty.{IsVerified}
use Rattle.flux_plan.proofs.Placing.{placed_goes}
use Rattle.flux_plan.proofs.Stepping.{first_holds, handler_holds}
use Rattle.flux_verify.proofs.holding.Modes.{modes_of, drop_latest}
use Rattle.flux_verify.proofs.holding.Frames.{Holds, IsClosedOver, AreKept, kept}

-- ---- frames one over another

abbrev pub AreClosed : Plan → ℕ → List (List Hold) → Type 0
AreClosed plan node all = AllByRecursion (IsClosedOver plan.segments node) all

-- what frames hold, the innermost first; what each holds is closed at those that were entered from it
abbrev pub AreHolding : Plan → List Frame → List (List Hold) → Type 0
AreHolding plan [] [] = ⊤
AreHolding plan [] (held ∷ all) = ⊥
AreHolding plan (frame ∷ below) [] = ⊥
AreHolding plan (frame ∷ below) (held ∷ all) =
    Holds plan frame.node.0 frame.place held × AreClosed plan frame.node.0 all × AreHolding plan below all

-- all that is held, the latest first
abbrev pub all_of : List (List Hold) → List Hold
all_of [] = []
all_of (held ∷ all) = held ++ all_of all

module _ (plan : Plan) (node led : ℕ) (is : IsIn led (leads_from plan.segments node)) where
  -- what is closed at a node is closed at those that it leads to
  closed_on : (all : List (List Hold)) → AreClosed plan node all → AreClosed plan led all
  closed_on [] closed = tt
  closed_on (held ∷ all) (own, closed) =
      (λ reached reaches hold taken. own reached (record { between = led ∷ reaches.between; way = (is, reaches.way) }) hold taken, closed_on all closed)

-- what holds nothing is closed
closed_none : (plan : Plan) (node : ℕ) → IsClosedOver plan.segments node []
closed_none plan node reached reaches hold taken = inr (λ own is. absurd (contains_none own is))

module _ (plan : Plan) (verified : IsVerified plan) (key : ClassNo → Key) (matches : Matches) where
  -- after a silent step what is held is the same
  pub record Left (all : List (List Hold)) (next : State) : Type 0 where
    pub now : List (List Hold)
    pub are : AreHolding plan next.frames now
    pub same : all_of now ≡ all_of all

  -- and after an event it is what is held after that
  pub record Made (all : List (List Hold)) (act : Act) (next : State) : Type 0 where
    pub now : List (List Hold)
    pub are : AreHolding plan next.frames now
    pub same : (k : Key) (events : List Event)
        → held_after k (modes_of key k (all_of all)) (event_of key act ∷ events) ≡ held_after k (modes_of key k (all_of now)) events

  abbrev pub Leaves : State → List (List Hold) → Step → Type 0
  Leaves state all (silent next) = Left all next
  Leaves state all (acts act next) = Made all act next
  Leaves state all (calls node) = (answer : Answer) → let next = answered state answer in AreHolding plan next.frames all
  Leaves state all ended = ⊤
  Leaves state all stuck = ⊤

  module _ (exit : ℕ) (frame : Frame) (below : List Frame) (held : List Hold) (rest : List (List Hold)) (closed : AreClosed plan frame.node.0 rest) (all : AreHolding plan below rest) where
    abbrev start : List Value → Outcome → State
    start values outcome = record { frames = frame ∷ below; values = values; outcome = outcome }

    abbrev Kept : Instr → Type 0
    Kept instr = AreKept plan frame.node.0 frame.place exit held instr

    chooses : (values : List Value) (outcome : Outcome) (found : Option (ℕ × Arm)) → Holds plan frame.node.0 exit held → IfSome found (λ (n, arm). Holds plan frame.node.0 arm.to held)
        → Leaves (start values outcome) (held ∷ rest) (chosen exit frame below values outcome found)
    chooses values outcome None to_exit is = record { now = held ∷ rest; are = (to_exit, closed, all); same = refl }
    chooses values outcome (Some (n, arm)) to_exit is = record { now = held ∷ rest; are = (is, closed, all); same = λ k events. refl }

    without : held ≡ [] → all_of rest ≡ all_of (held ∷ rest)
    without none = sym (ap (λ (h : List Hold). h ++ all_of rest) none)

    handler : (values : List Value) (code : ℕ) (found : Option NodeNo) → held ≡ [] → Holds plan frame.node.0 (frame.place + 1) [] → Holds plan frame.node.0 (frame.place + 2) []
        → IfSome found (λ node. Holds plan node.0 0 [] × IsIn node.0 (leads_from plan.segments frame.node.0))
        → Leaves (start values (Bad code)) (held ∷ rest) (handled frame below values code found)
    handler values code None none on past is = record { now = [] ∷ rest; are = (past, closed, all); same = without none }
    handler values code (Some node) none on past (holds, led) = record {
      now = [] ∷ [] ∷ rest;
      are = (holds, (closed_none plan node.0, closed_on plan frame.node.0 node.0 led rest closed), (on, closed, all));
      same = without none;
    }

    obeyed_leaves : (values : List Value) (outcome : Outcome) (instr : Instr) → Kept instr → Leaves (start values outcome) (held ∷ rest) (obeyed matches exit frame below values outcome instr)
    obeyed_leaves values outcome (Take class mode) on = record { now = (record { class = class; mode = mode } ∷ held) ∷ rest; are = (on, closed, all); same = λ k events. refl }
    obeyed_leaves values outcome Enter on = record { now = held ∷ rest; are = (on, closed, all); same = λ k events. refl }
    obeyed_leaves values outcome (Choose arms) (to_exit, arms_) =
        chooses values outcome (first_arm (λ patterns. matches patterns values) 1 arms) to_exit
        (first_holds (λ (arm : Arm). Holds plan frame.node.0 arm.to held) (λ patterns. matches patterns values) 1 arms arms_)
    obeyed_leaves values Good (Go node) (to_exit, on, inner, own, led) =
        record { now = [] ∷ held ∷ rest; are = (inner, (own, closed_on plan frame.node.0 node.0 led rest closed), (on, closed, all)); same = refl }
    obeyed_leaves values Over (Go node) (to_exit, on, inner, own, led) = record { now = held ∷ rest; are = (to_exit, closed, all); same = refl }
    obeyed_leaves values (Bad code) (Go node) (to_exit, on, inner, own, led) = record { now = held ∷ rest; are = (to_exit, closed, all); same = refl }
    obeyed_leaves values outcome Leave on = record { now = held ∷ rest; are = (on, closed, all); same = refl }
    obeyed_leaves values outcome Call on = λ answer. by answer.result
      where
        by : (result : CallResult) → let next = resulting frame below values outcome result in AreHolding plan next.frames (held ∷ rest)
        by (results.Good new) = (on, closed, all)
        by (results.Bad code) = (on, closed, all)
    obeyed_leaves values outcome Exit on = record { now = held ∷ rest; are = (on, closed, all); same = λ k events. refl }
    obeyed_leaves values outcome (Drop class) (hold, own, is, same, on) = record {
      now = own ∷ rest;
      are = (on, closed, all);
      same = λ k events. rw (is, ← same) (drop_latest key k hold (own ++ all_of rest) events);
    }
    obeyed_leaves values Good (Handle arms) (none, on, past, arms_) = record { now = [] ∷ rest; are = (past, closed, all); same = without none }
    obeyed_leaves values Over (Handle arms) (none, on, past, arms_) = record { now = [] ∷ rest; are = (past, closed, all); same = without none }
    obeyed_leaves values (Bad code) (Handle arms) (none, on, past, arms_) =
        handler values code (handler_for arms code) none on past
        (handler_holds (λ n. Holds plan n 0 [] × IsIn n (leads_from plan.segments frame.node.0)) arms code arms_)
    obeyed_leaves values outcome EndHandle on = record { now = held ∷ rest; are = (on, closed, all); same = refl }
    obeyed_leaves values outcome Return none = by below all
      where
        by : (frames : List Frame) → AreHolding plan frames rest
            → Leaves (record { frames = frame ∷ frames; values = values; outcome = outcome }) (held ∷ rest) (obeyed matches exit frame frames values outcome Return)
        by [] holding = record { now = rest; are = holding; same = λ k events. ap (λ (h : List Hold). held_after k (modes_of key k (h ++ all_of rest)) events) none }
        by (f ∷ frames) holding = record { now = rest; are = holding; same = without none }

  -- after a step frames hold what is held after it
  pub step_leaves : (state : State) (all : List (List Hold)) → AreHolding plan state.frames all → Leaves state all (step plan.segments matches state)
  step_leaves state all are = by state.frames all are
    where
      by : (frames : List Frame) (all : List (List Hold)) → AreHolding plan frames all
          → Leaves (record { frames = frames; values = state.values; outcome = state.outcome }) all (step plan.segments matches (record { frames = frames; values = state.values; outcome = state.outcome }))
      by [] all are = tt
      by (frame ∷ below) [] are = absurd are
      by (frame ∷ below) (held ∷ rest) (own, closed, all) =
          let on = placed_goes plan verified frame.node.0 frame.place own.placed in
          let start : State = record { frames = frame ∷ below; values = state.values; outcome = state.outcome } in
          let placed = own.placed in
          let P : Option Segment → Type 0 = λ s. Leaves start (held ∷ rest) (step_in matches frame below state.values state.outcome s) in
          let Q : Option Instr → Type 0 = λ i. Leaves start (held ∷ rest) (step_of matches placed.segment.exit frame below state.values state.outcome i) in
          subst P (sym placed.is) (subst Q (sym on.is)
          (obeyed_leaves placed.segment.exit frame below held rest closed all state.values state.outcome on.instr (kept plan verified frame.node.0 frame.place held own)))
