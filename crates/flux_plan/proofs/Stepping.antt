-- In a verified plan each step leads from placed frames to placed frames.
use Rattle.std.proofs.Common.{ℕ, ◌+◌, Bool, true, false, List, [], ◌∷◌, Option, Some, None, sym, subst}
use Rattle.std.specs.Prelude.{⊤, if◌then◌else◌, IfSome}
use Rattle.std.specs.List.{find, AllByRecursion}
use Rattle.std.specs.Option.{option_or, option_map}
use Rattle.flux_values.specs.declared.values.Value.{Value}
use Rattle.flux_values.specs.declared.answers.Answer.{Answer}
use Rattle.flux_values.specs.declared.answers.CallResult.{CallResult}
use Rattle.flux_values.specs.declared.answers.CallResult.TheVariants as results
use Rattle.flux_model.specs.declared.programs.NodeNo.{NodeNo}
use Rattle.flux_model.specs.declared.programs.HandleArm.{HandleArm}
use Rattle.flow_model.specs.declared.journals.Outcome.{Outcome}
use Rattle.flow_model.specs.declared.journals.Outcome.TheVariants.{Good, Over, Bad}
use Rattle.flow_model.specs.Matching.{handler_for, names_code, has_no_codes}
use Rattle.flux_plan.specs.declared.plans.Plan.{Plan}
use Rattle.flux_plan.specs.declared.plans.Segment.{Segment}
use Rattle.flux_plan.specs.declared.plans.Arm.{Arm}
use Rattle.flux_plan.specs.declared.plans.Instr.{Instr}
use Rattle.flux_plan.specs.declared.plans.Instr.TheVariants.{Take, Enter, Choose, Go, Leave, Call, Exit, Drop, Handle, EndHandle, Return}
use Rattle.flux_plan.specs.declared.stacks.Frame.{Frame}
use Rattle.flux_plan.specs.Machine.{State, Step, silent, acts, calls, ended, stuck, Matches, first_arm, chosen, handled, obeyed, step_of, step_in, step, answered, resulting}
use Rattle.flux_plan.specs.Faulty.{IsVerified}
use Rattle.flux_plan.specs.steps.Placed.{IsPlaced, ArePlaced, AreLedOn}
use Rattle.flux_plan.proofs.Placing.{placed_goes, led_on}

-- ---- what is found holds

-- what holds of all arms holds of the first that matches
pub first_holds : (P : Arm → Type 0) (fits : List (Option ℕ) → Bool) (number : ℕ) (arms : List Arm) → AllByRecursion P arms → IfSome (first_arm fits number arms) (λ (n, arm). P arm)
first_holds P fits number [] all = tt
first_holds P fits number (arm ∷ arms) (own, all) = by (fits arm.patterns) (first_holds P fits (number + 1) arms all)
  where
    by : (t : Bool) → IfSome (first_arm fits (number + 1) arms) (λ (n, arm). P arm) → IfSome (if t then Some (number, arm) else first_arm fits (number + 1) arms) (λ (n, arm). P arm)
    by true more = own
    by false more = more

find_holds : {X : Type 0} (P : X → Type 0) (test : X → Bool) (xs : List X) → AllByRecursion P xs → IfSome (find test xs) P
find_holds P test [] all = tt
find_holds P test (x ∷ xs) (own, all) = by (test x) (find_holds P test xs all)
  where
    by : (t : Bool) → IfSome (find test xs) P → IfSome (if t then Some x else find test xs) P
    by true more = own
    by false more = more

pub handler_holds : (P : ℕ → Type 0) (arms : List HandleArm) (code : ℕ) → AllByRecursion (λ arm. P arm.node.0) arms → IfSome (handler_for arms code) (λ node. P node.0)
handler_holds P arms code all = by (find (names_code code) arms) (find_holds (λ (arm : HandleArm). P arm.node.0) (names_code code) arms all) (find (λ arm. has_no_codes arm.codes) arms) (find_holds (λ (arm : HandleArm). P arm.node.0) (λ arm. has_no_codes arm.codes) arms all)
  where
    by : (a : Option HandleArm) → IfSome a (λ arm. P arm.node.0) → (b : Option HandleArm) → IfSome b (λ arm. P arm.node.0) → IfSome (option_map (λ (arm : HandleArm). arm.node) (option_or a b)) (λ node. P node.0)
    by (Some arm) own b other = own
    by None own (Some arm) other = other
    by None own None other = tt

-- ---- steps

-- a step leads to placed frames, as each answer of a call does
abbrev pub Keeps : Plan → State → Step → Type 0
Keeps plan state (silent next) = ArePlaced plan next.frames
Keeps plan state (acts act next) = ArePlaced plan next.frames
Keeps plan state (calls node) = (answer : Answer) → let next = answered state answer in ArePlaced plan next.frames
Keeps plan state ended = ⊤
Keeps plan state stuck = ⊥

module _ (plan : Plan) (verified : IsVerified plan) (matches : Matches) where
  obeyed_keeps : (exit : ℕ) (frame : Frame) (below : List Frame) (values : List Value) (outcome : Outcome) (instr : Instr) → ArePlaced plan below → AreLedOn plan frame.node.0 frame.place exit instr
      → Keeps plan (record { frames = frame ∷ below; values = values; outcome = outcome }) (obeyed matches exit frame below values outcome instr)
  obeyed_keeps exit frame below values outcome (Take class mode) all led = (led, all)
  obeyed_keeps exit frame below values outcome Enter all led = (led, all)
  obeyed_keeps exit frame below values outcome (Choose arms) all (to_exit, lt, arms_) = by (first_arm (λ patterns. matches patterns values) 1 arms) (first_holds (λ (arm : Arm). IsPlaced plan frame.node.0 arm.to) (λ patterns. matches patterns values) 1 arms arms_)
    where
      by : (found : Option (ℕ × Arm)) → IfSome found (λ (n, arm). IsPlaced plan frame.node.0 arm.to) → Keeps plan (record { frames = frame ∷ below; values = values; outcome = outcome }) (chosen exit frame below values outcome found)
      by None is = (to_exit, all)
      by (Some (n, arm)) is = (is, all)
  obeyed_keeps exit frame below values Good (Go node) all (to_exit, lt, on, inner) = (inner, (on, all))
  obeyed_keeps exit frame below values Over (Go node) all (to_exit, lt, on, inner) = (to_exit, all)
  obeyed_keeps exit frame below values (Bad code) (Go node) all (to_exit, lt, on, inner) = (to_exit, all)
  obeyed_keeps exit frame below values outcome Leave all (to_exit, lt) = (to_exit, all)
  obeyed_keeps exit frame below values outcome Call all led = λ answer. by answer.result
    where
      by : (result : CallResult) → let next = resulting frame below values outcome result in ArePlaced plan next.frames
      by (results.Good new) = (led, all)
      by (results.Bad code) = (led, all)
  obeyed_keeps exit frame below values outcome Exit all led = (led, all)
  obeyed_keeps exit frame below values outcome (Drop class) all led = (led, all)
  obeyed_keeps exit frame below values Good (Handle arms) all (on, past, arms_) = (past, all)
  obeyed_keeps exit frame below values Over (Handle arms) all (on, past, arms_) = (past, all)
  obeyed_keeps exit frame below values (Bad code) (Handle arms) all (on, past, arms_) = by (handler_for arms code) (handler_holds (λ n. IsPlaced plan n 0) arms code arms_)
    where
      by : (found : Option NodeNo) → IfSome found (λ node. IsPlaced plan node.0 0) → Keeps plan (record { frames = frame ∷ below; values = values; outcome = Bad code }) (handled frame below values code found)
      by None is = (past, all)
      by (Some node) is = (is, (on, all))
  obeyed_keeps exit frame below values outcome EndHandle all led = (led, all)
  obeyed_keeps exit frame [] values outcome Return all led = tt
  obeyed_keeps exit frame (f ∷ below) values outcome Return all led = all

  -- a step of placed frames leads to placed frames
  pub step_keeps : (state : State) → ArePlaced plan state.frames → Keeps plan state (step plan.segments matches state)
  step_keeps state all = by state.frames all
    where
      by : (frames : List Frame) → ArePlaced plan frames → Keeps plan (record { frames = frames; values = state.values; outcome = state.outcome }) (step plan.segments matches (record { frames = frames; values = state.values; outcome = state.outcome }))
      by [] all = tt
      by (frame ∷ below) (own, all) =
          let on = placed_goes plan verified frame.node.0 frame.place own in
          let led = led_on plan verified frame.node.0 frame.place own in
          let start : State = record { frames = frame ∷ below; values = state.values; outcome = state.outcome } in
          let P : Option Segment → Type 0 = λ s. Keeps plan start (step_in matches frame below state.values state.outcome s) in
          let Q : Option Instr → Type 0 = λ i. Keeps plan start (step_of matches own.segment.exit frame below state.values state.outcome i) in
          subst P (sym own.is) (subst Q (sym on.is) (obeyed_keeps own.segment.exit frame below state.values state.outcome on.instr all led))
