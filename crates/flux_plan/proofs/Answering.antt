-- The answers of calls, as the code takes them.
use Rattle.std.proofs.Common.{◌≡◌, ℕ, ◌+◌, ◌-◌, List, [], ◌∷◌, length, take, reverse, Option, Some, None, refl, sym, ap, ◌∙◌, subst}
use Rattle.std.specs.Prelude.{IsSome}
use Rattle.std.specs.List.{slice_get}
use Rattle.flux_values.specs.declared.values.Value.{Value}
use Rattle.flux_values.specs.declared.answers.Answer.{Answer}
use Rattle.flux_values.specs.declared.answers.CallResult.{CallResult}
use Rattle.flux_values.specs.declared.answers.CallResult.TheVariants as results
use Rattle.flux_model.specs.declared.programs.ClassNo.{ClassNo}
use Rattle.flow_model.specs.declared.journals.Outcome.{Outcome}
use Rattle.flow_model.specs.declared.journals.Outcome.TheVariants.{Bad}
use Rattle.flux_plan.specs.declared.plans.Plan.{Plan}
use Rattle.flux_plan.specs.declared.plans.Segment.{Segment}
use Rattle.flux_plan.specs.declared.plans.Instr.{Instr}
use Rattle.flux_plan.specs.declared.plans.Instr.TheVariants.{Call, Exit}
use Rattle.flux_plan.specs.declared.stacks.Frame.{Frame}
use Rattle.flux_plan.specs.declared.stacks.Stack.{Stack}
use Rattle.flux_plan.specs.Machine.{State, Matches, step, step_in, step_of, going_to, at_place, answered, answered_over, resulting}
use Rattle.flux_plan.specs.Moves.{next_by, called_by, called_over, code_of}
use Rattle.flux_plan.specs.Reading.{Reading, between, whole, reading_at}
use Rattle.flux_plan.specs.Faulty.{IsVerified}
use Rattle.flux_plan.specs.steps.Placed.{IsPlaced, ArePlaced}
use Rattle.flux_plan.specs.steps.Turns.{StandsAt, with_place, cursor_on, IsTaken}
use Rattle.flux_plan.proofs.Readings.{Goes, take as takes_one, enter, call, choose, leave, first_go, no_go, go, last_go, drop, handle, return, end_handle, close}
use Rattle.flux_plan.proofs.Placing.{GoesOn, placed_goes, shape_goes, shaped}
use Rattle.flux_plan.proofs.Framing.{moved_last}
use Rattle.flux_plan.proofs.Acting.{top_first}

-- where a call comes next, `Call` is there
is_call : (frame : Frame) (instr : Instr) → IsSome (called_by frame (Some instr)) → instr ≡ Call
is_call frame Call some = refl
is_call frame other some = absurd cc

pub calls_here : (plan : Plan) (frames : List Frame) (top : Frame) (exit : ℕ) (instr : Instr) → Some top ≡ slice_get frames (length frames - 1)
    → StandsAt plan top.node.0 top.place exit instr → IsSome (called_over plan.segments (reverse frames)) → instr ≡ Call
calls_here plan frames top exit instr is stands some =
    let own = subst (λ (fs : List Frame). IsSome (called_over plan.segments fs)) (top_first frames top is) some in
    let found = subst (λ (s : Option Segment). IsSome (called_by top (slice_get (code_of s) top.place))) stands.is own in
    is_call top instr (subst (λ (i : Option Instr). IsSome (called_by top i)) stands.at found)

-- after `Call` comes `Exit`
record NextIsExit (next : Reading) : Type 0 where
  classes : List ClassNo
  is : next ≡ between [] classes

next_exit : (exit place : ℕ) (reading : Reading) (instr : Instr) (next : Reading) → Goes exit place reading instr next → instr ≡ Call → NextIsExit next
next_exit exit place reading instr next (call {classes = cs}) same = record { classes = cs; is = refl }
next_exit exit place reading instr next (takes_one below) same = absurd cc
next_exit exit place reading instr next enter same = absurd cc
next_exit exit place reading instr next choose same = absurd cc
next_exit exit place reading instr next (leave e) same = absurd cc
next_exit exit place reading instr next (first_go e) same = absurd cc
next_exit exit place reading instr next (no_go e) same = absurd cc
next_exit exit place reading instr next go same = absurd cc
next_exit exit place reading instr next last_go same = absurd cc
next_exit exit place reading instr next (drop e) same = absurd cc
next_exit exit place reading instr next handle same = absurd cc
next_exit exit place reading instr next return same = absurd cc
next_exit exit place reading instr next end_handle same = absurd cc
next_exit exit place reading instr next close same = absurd cc

at_exit : (exit place : ℕ) (classes : List ClassNo) (instr : Instr) (next : Reading) → Goes exit place (between [] classes) instr next → (exit ≡ place) × (instr ≡ Exit)
at_exit exit place classes instr next (leave e) = (e, refl)

module _ (plan : Plan) (verified : IsVerified plan) (node place : ℕ) (placed : IsPlaced plan node place) (is : slice_get placed.segment.code place ≡ Some Call) where
  here : GoesOn placed.segment place placed.reading
  here = placed_goes plan verified node place placed

  behind : (classes : List ClassNo) → reading_at placed.segment (place + 1) ≡ Some (between [] classes) → (placed.segment.exit ≡ place + 1) × (slice_get placed.segment.code (place + 1) ≡ Some Exit)
  behind classes before =
      let on = shape_goes placed.segment (shaped plan verified node place placed) (place + 1) (between [] classes) before (λ (e : between [] classes ≡ whole). cc) in
      let (at, exit) = at_exit placed.segment.exit (place + 1) classes on.instr on.next on.goes in
      (at, on.is ∙ ap (λ (i : Instr). Some i) exit)

  pub exit_behind : (placed.segment.exit ≡ place + 1) × (slice_get placed.segment.code (place + 1) ≡ Some Exit)
  exit_behind =
      let same : here.instr ≡ Call = let h = here.is in cc in
      let next = next_exit placed.segment.exit place placed.reading here.instr here.next here.goes same in
      behind next.classes (here.after ∙ ap (λ (r : Reading). Some r) next.is)

-- the place of the innermost frame after a call
pub behind_call : (plan : Plan) → IsVerified plan → (node place exit : ℕ) (instr : Instr) → IsPlaced plan node place → StandsAt plan node place exit instr → instr ≡ Call → exit ≡ place + 1
behind_call plan verified node place exit instr placed stands same =
    let own : placed.segment ≡ stands.segment = let h = placed.is in let k = stands.is in cc in
    let at : slice_get placed.segment.code place ≡ Some Call = ap (λ (s : Segment). slice_get s.code place) own ∙ stands.at ∙ ap (λ (i : Instr). Some i) same in
    let (e, _) = exit_behind plan verified node place placed at in
    sym stands.exit_ ∙ sym (ap (λ (s : Segment). s.exit) own) ∙ e

taken_as : (old new : Stack) (top : Frame) (below : List Frame) (exit : ℕ) (result : CallResult) → exit ≡ top.place + 1 → IsTaken result old new
    → going_to exit top below new.values new.outcome ≡ resulting top below old.values old.outcome result
taken_as old new top below exit (results.Good values) next (all, same) =
    ap (λ (n : ℕ). going_to n top below new.values new.outcome) next
    ∙ ap (λ (vs : List Value). going_to (top.place + 1) top below vs new.outcome) all
    ∙ ap (going_to (top.place + 1) top below values) same
taken_as old new top below exit (results.Bad code) next (all, same) =
    ap (λ (n : ℕ). going_to n top below new.values new.outcome) next
    ∙ ap (λ (vs : List Value). going_to (top.place + 1) top below vs new.outcome) all
    ∙ ap (going_to (top.place + 1) top below old.values) same

-- the stack of an answered call
pub answered_last : (old new : Stack) (result : CallResult) (top : Frame) (index exit : ℕ)
    → let frames = old.frames.items in Some top ≡ slice_get frames (length frames - 1) → length frames ≡ index + 1 → exit ≡ top.place + 1
    → IsTaken result old new
    → let s : State = record { frames = reverse (with_place frames index exit); values = new.values; outcome = new.outcome } in s ≡ answered_over (reverse frames) old.values old.outcome result
answered_last old new result top index exit is long next taken =
    let frames = old.frames.items in
    let turn = top_first frames top is in
    moved_last frames index exit new.values new.outcome long
    ∙ ap (λ (fs : List Frame). cursor_on exit fs new.values new.outcome) turn
    ∙ taken_as old new top (reverse (take (length frames - 1) frames)) exit result next taken
    ∙ sym (ap (λ (fs : List Frame). answered_over fs old.values old.outcome result) turn)

-- after an answered call the flow is at rest
exit_acts : (matches : Matches) (exit : ℕ) (frame : Frame) (below : List Frame) (values : List Value) (outcome : Outcome) → IsSome (next_by (step_of matches exit frame below values outcome (Some Exit)))
exit_acts matches exit frame below values outcome = refl

module _ (plan : Plan) (verified : IsVerified plan) (matches : Matches) (frame : Frame) (below : List Frame) (placed : IsPlaced plan frame.node.0 frame.place) where
  exits_next : slice_get placed.segment.code frame.place ≡ Some Call → (values : List Value) (outcome : Outcome) → IsSome (next_by (step plan.segments matches (going_to (frame.place + 1) frame below values outcome)))
  exits_next is values outcome =
      let (_, at) = exit_behind plan verified frame.node.0 frame.place placed is in
      let P : Option Segment → Type 0 = λ s. IsSome (next_by (step_in matches (at_place frame (frame.place + 1)) below values outcome s)) in
      let Q : Option Instr → Type 0 = λ i. IsSome (next_by (step_of matches placed.segment.exit (at_place frame (frame.place + 1)) below values outcome i)) in
      subst P (sym placed.is) (subst Q (sym at) (exit_acts matches placed.segment.exit (at_place frame (frame.place + 1)) below values outcome))

  pub called_at : IsSome (called_over plan.segments (frame ∷ below)) → slice_get placed.segment.code frame.place ≡ Some Call
  called_at some = by (slice_get placed.segment.code frame.place) refl (subst (λ (s : Option Segment). IsSome (called_by frame (slice_get (code_of s) frame.place))) placed.is some)
    where
      by : (i : Option Instr) → slice_get placed.segment.code frame.place ≡ i → IsSome (called_by frame i) → i ≡ Some Call
      by None e some = absurd cc
      by (Some instr) e some = ap (λ (i : Instr). Some i) (is_call frame instr some)

  result_rests : (result : CallResult) → IsSome (called_over plan.segments (frame ∷ below)) → (values : List Value) (outcome : Outcome) → IsSome (next_by (step plan.segments matches (resulting frame below values outcome result)))
  result_rests (results.Good new) some values outcome = exits_next (called_at some) new outcome
  result_rests (results.Bad code) some values outcome = exits_next (called_at some) values (Bad code)

pub answer_rests : (plan : Plan) → IsVerified plan → (matches : Matches) (state : State) (answer : Answer) → ArePlaced plan state.frames → IsSome (called_over plan.segments state.frames) → IsSome (next_by (step plan.segments matches (answered state answer)))
answer_rests plan verified matches state answer placed some = by state.frames placed some
  where
    by : (frames : List Frame) → ArePlaced plan frames → IsSome (called_over plan.segments frames) → IsSome (next_by (step plan.segments matches (answered_over frames state.values state.outcome answer.result)))
    by [] placed some = absurd cc
    by (frame ∷ below) (own, placed) some = result_rests plan verified matches frame below own answer.result some state.values state.outcome
