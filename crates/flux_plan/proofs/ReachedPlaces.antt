-- What a run of a verified plan reaches is placed.
use Rattle.std.proofs.Common.{◌≡◌, ℕ, zero, suc, List, [], ◌∷◌, true, Option, Some, None, refl, sym, ap, subst}
use Rattle.std.specs.Prelude.{IsSome}
use Rattle.std.specs.List.{slice_get}
use Rattle.flux_values.specs.declared.values.Value.{Value}
use Rattle.flux_values.specs.declared.answers.Answer.{Answer}
use Rattle.flux_model.specs.declared.programs.NodeNo.{NodeNo}
use Rattle.flux_model.specs.declared.programs.ClassNo.{ClassNo}
use Rattle.flow_model.specs.declared.journals.Key.{Key}
use Rattle.flow_model.specs.declared.journals.Event.{Event}
use Rattle.flux_plan.specs.declared.plans.Plan.{Plan}
use Rattle.flux_plan.specs.declared.plans.Segment.{Segment}
use Rattle.flux_plan.specs.declared.plans.Instr.{Instr}
use Rattle.flux_plan.specs.declared.plans.Instr.TheVariants.{Call}
use Rattle.flux_plan.specs.declared.stacks.Frame.{Frame}
use Rattle.flux_plan.specs.Machine.{State, Step, silent, acts, calls, ended, stuck, Matches, step, answered, Position, fresh, at, state_in, beginning}
use Rattle.flux_plan.specs.Runs.{Ran, Standing, on_the_way, at_call, at_end, run, run_step, run_call, stands, after_event}
use Rattle.flux_plan.specs.Moves.{next_in, called_in, IsAtRest, IsReached}
use Rattle.flux_plan.specs.Reading.{taking, whole}
use Rattle.flux_plan.specs.Faulty.{IsVerified, IsFaultIn}
use Rattle.flux_plan.specs.steps.Placed.{IsPlaced, ArePlaced}
use Rattle.flux_plan.specs.steps.Turns.{IsOpening}
use Rattle.flux_plan.proofs.Placing.{placed_goes, opening}
use Rattle.flux_plan.proofs.Stepping.{Keeps, step_keeps}
use Rattle.flux_plan.proofs.Landings.{entering_rests}
use Rattle.flux_plan.proofs.Answering.{called_at}

-- the target's frame is placed at the beginning
pub start_placed : (plan : Plan) → IsVerified plan → IsPlaced plan plan.target.0 0
start_placed plan verified = by (slice_get plan.segments plan.target.0) refl
  where
    by : (o : Option Segment) → slice_get plan.segments plan.target.0 ≡ o → IsPlaced plan plan.target.0 0
    by None none = absurd (verified.none plan.target.0 0 (let P : Option Segment → Type 0 = IsFaultIn plan plan.target.0 0 in subst P (sym none) (refl, refl)))
    by (Some segment) found = record {
      reached = record { between = []; way = refl };
      segment = segment;
      is = found;
      reading = taking [];
      before = refl;
      goes_on = λ (e : taking [] ≡ whole). cc;
    }

module _ (plan : Plan) (verified : IsVerified plan) (key : ClassNo → Key) (matches : Matches) where
  -- where a run gets to from placed frames, the frames are placed
  abbrev Leads : Ran → Type 0
  Leads ran = (events : List Event) (next : State) (left : List Answer) → ran ≡ record { events = events; standing = on_the_way next left } → ArePlaced plan next.frames

  halts : (standing : Standing) → ((next : State) (left : List Answer) → standing ≡ on_the_way next left → ArePlaced plan next.frames) → Leads (stands standing)
  halts standing none events next left e = none next left (ap (λ (r : Ran). r.standing) e)

  with_event : (event : Event) (ran : Ran) → Leads ran → Leads (after_event event ran)
  with_event event ran leads events next left e = leads ran.events next left (ap (λ (s : Standing). let r : Ran = record { events = ran.events; standing = s } in r) (ap (λ (r : Ran). r.standing) e))

  pub run_placed : (steps : ℕ) (state : State) (answers : List Answer) → ArePlaced plan state.frames → Leads (run plan.segments key matches steps state answers)
  run_placed zero state answers placed = halts (on_the_way state answers) (λ next left e. let same : state ≡ next = cc in subst (λ (s : State). ArePlaced plan s.frames) same placed)
  run_placed (suc steps) state answers placed =
      by (step plan.segments matches state) (step_keeps plan verified matches state placed) (λ s l p. run_placed steps s l p)
    where
      call : (node : NodeNo) (own : List Answer) → ((answer : Answer) → let next = answered state answer in ArePlaced plan next.frames)
          → ((s : State) (l : List Answer) → ArePlaced plan s.frames → Leads (run plan.segments key matches steps s l))
          → Leads (run_call (run plan.segments key matches steps) state node own)
      call node [] keeps more = halts (at_call node state.values) (λ next left e. absurd cc)
      call node (answer ∷ left) keeps more = with_event _ _ (more (answered state answer) left (keeps answer))

      by : (own : Step) → Keeps plan state own → ((s : State) (l : List Answer) → ArePlaced plan s.frames → Leads (run plan.segments key matches steps s l))
          → Leads (run_step (run plan.segments key matches steps) key state answers own)
      by (silent next) keeps more = more next answers keeps
      by (acts act next) keeps more = with_event _ _ (more next answers keeps)
      by (calls node) keeps more = call node answers keeps more
      by ended keeps more = halts at_end (λ next left e. absurd cc)
      by stuck keeps more = absurd keeps

-- the frames of a place that a run reaches are placed
pub reached_placed : (plan : Plan) → IsVerified plan → (matches : Matches) (position : Position) → IsReached plan matches position → let state = state_in plan position in ArePlaced plan state.frames
reached_placed plan verified matches position reached =
    let has = reached.has in
    run_placed plan verified reached.key matches has.steps (beginning plan reached.values) reached.answers (start_placed plan verified, tt) reached.events (state_in plan position) [] has.reached

-- and at rest
pub reached_rests : (plan : Plan) → IsVerified plan → (matches : Matches) (position : Position) → IsReached plan matches position → IsSome (next_in plan matches position)
reached_rests plan verified matches position reached = let has = reached.has in by position has.rests
  where
    by : (p : Position) → IsAtRest plan matches p → IsSome (next_in plan matches p)
    by (fresh values) rests = entering_rests plan verified matches plan.target values [] (start_placed plan verified)
    by (at state) rests = rests

not_call : (instr : Instr) → IsOpening instr → instr ≡ Call → ⊥
not_call Call opens same = opens
not_call other opens same = cc

-- a flow doesn't begin with a call
pub begins_without_call : (plan : Plan) → IsVerified plan → (values : List Value) → IsSome (called_in plan (fresh values)) → ⊥
begins_without_call plan verified values some =
    let placed = start_placed plan verified in
    let on = placed_goes plan verified plan.target.0 0 placed in
    let frame : Frame = record { node = plan.target; place = 0; inputs = values } in
    let called = called_at plan verified (λ patterns values. true) frame [] placed some in
    let same : on.instr ≡ Call = let h = on.is in cc in
    not_call on.instr (opening plan verified plan.target.0 0 placed refl) same
