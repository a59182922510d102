-- Events, as the code makes them.
use Rattle.std.proofs.Common.{◌≡◌, ◌⊎◌, inl, inr, ℕ, ◌+◌, ◌-◌, List, [], ◌∷◌, length, take, reverse, Option, Some, None, refl, sym, ap, ◌∙◌, subst, arith}
use Rattle.std.specs.Prelude.{IsSome, Result, Ok, Err, OnOk}
use Rattle.std.specs.List.{slice_get}
use Rattle.std.proofs.lemmas.Option.{slice_get_within, get_or_from_slice_get}
use Rattle.flux_values.specs.declared.values.Value.{Value}
use Rattle.flux_values.specs.declared.answers.Mode.{Mode}
use Rattle.flux_values.specs.Meanings.{LibraryMeaning}
use Rattle.flux_model.specs.declared.programs.ClassNo.{ClassNo}
use Rattle.flow_model.specs.declared.journals.Outcome.{Outcome}
use Rattle.flow_model.specs.declared.journals.Outcome.TheVariants.{Good}
use Rattle.flow_model.specs.Matching.{patterns_match}
use Rattle.flux_plan.specs.declared.plans.Plan.{Plan}
use Rattle.flux_plan.specs.declared.plans.Arm.{Arm}
use Rattle.flux_plan.specs.declared.plans.Instr.{Instr}
use Rattle.flux_plan.specs.declared.plans.Instr.TheVariants.{Take, Enter, Choose, Exit, Drop, Return}
use Rattle.flux_plan.specs.declared.stacks.Frame.{Frame}
use Rattle.flux_plan.specs.declared.locals.Next.{Next}
use Rattle.flux_plan.specs.declared.locals.Next.TheVariants as nexts
use Rattle.flux_plan.specs.Machine.{State, Act, takes, enters, chooses, exits, drops, ends, Step, acts, Matches, first_arm, chosen, returned, obeyed, step, step_over, going_to}
use Rattle.flux_plan.specs.Moves.{next_by, IsEvent}
use Rattle.flux_plan.specs.declared.machines.Landing.{Landing}
use Rattle.flux_plan.specs.Faulty.{IsVerified}
use Rattle.flux_plan.specs.steps.Placed.{ArePlaced}
use Rattle.flux_plan.specs.steps.Turns.{StandsAt, found_place, fitting, cursor, cursor_on, IsCursorPlaced, IsBehind, Lands, landed, MovesOn}
use Rattle.flux_plan.proofs.Turning.{step_at}
use Rattle.flux_plan.proofs.Landings.{reverse_last, acts_keeps}

-- the innermost frame comes last
pub top_first : (frames : List Frame) (top : Frame) → Some top ≡ slice_get frames (length frames - 1) → reverse frames ≡ top ∷ reverse (take (length frames - 1) frames)
top_first frames top is =
    let lt = slice_get_within frames (length frames - 1) top (sym is) in
    reverse_last frames top (omega (arith, lt)) (sym (get_or_from_slice_get frames (length frames - 1) top top (sym is)))

module _ (plan : Plan) (matches : Matches) (frames : List Frame) (values : List Value) (outcome : Outcome) (top : Frame) (is : Some top ≡ slice_get frames (length frames - 1)) (exit : ℕ) (instr : Instr) (stands : StandsAt plan top.node.0 top.place exit instr) where
  abbrev state : State
  state = record { frames = reverse frames; values = values; outcome = outcome }

  abbrev below : List Frame
  below = reverse (take (length frames - 1) frames)

  -- the step of the instruction at the innermost frame
  pub step_top : step plan.segments matches state ≡ obeyed matches exit top below values outcome instr
  step_top =
      ap (λ (fs : List Frame). step_over plan.segments matches fs values outcome) (top_first frames top is)
      ∙ step_at plan matches top.place exit instr top below values outcome stands

  cursor_top : (place : ℕ) → going_to place top below values outcome ≡ cursor frames place values outcome
  cursor_top place = ap (λ (fs : List Frame). cursor_on place fs values outcome) (sym (top_first frames top is))

  abbrev Behind : ℕ → Type 0
  Behind place = (act : Act) × (step plan.segments matches state ≡ acts act (cursor frames place values outcome))

  by_step : (own : Instr) → instr ≡ own → (act : Act) (place : ℕ) → obeyed matches exit top below values outcome own ≡ acts act (going_to place top below values outcome) → Behind place
  by_step own same act place made = (act, step_top ∙ ap (obeyed matches exit top below values outcome) same ∙ made ∙ ap (acts act) (cursor_top place))

  -- after most events the frame goes on
  pub goes_on_behind : ((class : ClassNo) × (mode : Mode) × (instr ≡ Take class mode)) ⊎ ((instr ≡ Enter) ⊎ ((instr ≡ Exit) ⊎ ((class : ClassNo) × (instr ≡ Drop class)))) → Behind (top.place + 1)
  goes_on_behind (inl (class, mode, same)) = by_step (Take class mode) same (takes class mode) (top.place + 1) refl
  goes_on_behind (inr (inl same)) = by_step Enter same (enters top.node) (top.place + 1) refl
  goes_on_behind (inr (inr (inl same))) = by_step Exit same (exits top.node outcome) (top.place + 1) refl
  goes_on_behind (inr (inr (inr (class, same)))) = by_step (Drop class) same (drops class) (top.place + 1) refl

  -- with the last frame the flow ends
  pub ends_here : instr ≡ Return → IsSome (next_by (step plan.segments matches state))
      → step plan.segments matches state ≡ acts (ends outcome) (record { frames = []; values = values; outcome = outcome })
  ends_here same some = by below refl
    where
      made : step plan.segments matches state ≡ returned below values outcome
      made = step_top ∙ ap (obeyed matches exit top below values outcome) same

      by : (fs : List Frame) → below ≡ fs → step plan.segments matches state ≡ acts (ends outcome) (record { frames = []; values = values; outcome = outcome })
      by [] none = made ∙ ap (λ (l : List Frame). returned l values outcome) none
      by (f ∷ fs) more = absurd (let h = subst (λ (s : Step). IsSome (next_by s)) (made ∙ ap (λ (l : List Frame). returned l values outcome) more) some in cc)

event_some : (next : Option Next) → IsEvent next → IsSome next
event_some None event = absurd event
event_some (Some next) event = refl

module _ (plan : Plan) (matches : Matches) (frames : List Frame) (values : List Value) (outcome : Outcome) (top : Frame) (is : Some top ≡ slice_get frames (length frames - 1)) (exit : ℕ) (instr : Instr) (stands : StandsAt plan top.node.0 top.place exit instr) where
  pub ends_behind : instr ≡ Return → IsEvent (next_by (step plan.segments matches (state plan matches frames values outcome top is exit instr stands)))
      → (act : Act) × (step plan.segments matches (state plan matches frames values outcome top is exit instr stands) ≡ acts act (record { frames = []; values = values; outcome = outcome }))
  ends_behind same event = (ends outcome, ends_here plan matches frames values outcome top is exit instr stands same (event_some _ event))

  -- the end comes next
  pub ends_next : instr ≡ Return → IsSome (next_by (step plan.segments matches (state plan matches frames values outcome top is exit instr stands)))
      → next_by (step plan.segments matches (state plan matches frames values outcome top is exit instr stands)) ≡ Some (nexts.End outcome)
  ends_next same some = ap next_by (ends_here plan matches frames values outcome top is exit instr stands same some)

found_some : (found : Option (ℕ × Arm)) (number place : ℕ) → Some (number, place) ≡ found_place found → (arm : Arm) × (found ≡ Some (number, arm)) × (arm.to ≡ place)
found_some None number place e = absurd cc
found_some (Some (n, arm)) number place e =
    let pair : ◌≡◌ {A = ℕ × ℕ} (number, place) (n, arm.to) = cc in
    let own : n ≡ number = sym (ap (λ (p : ℕ × ℕ). p.0) pair) in
    (arm, ap (λ (m : ℕ). let p : Option (ℕ × Arm) = Some (m, arm) in p) own, sym (ap (λ (p : ℕ × ℕ). p.1) pair))

module _ (plan : Plan) (meaning : LibraryMeaning) (names : List (List ℕ)) (frames : List Frame) (values : List Value) (outcome : Outcome) (top : Frame) (is : Some top ≡ slice_get frames (length frames - 1)) (exit : ℕ) (arms : List Arm) (instr : Instr) (same : instr ≡ Choose arms) (stands : StandsAt plan top.node.0 top.place exit instr) where
  abbrev chosen_state : State
  chosen_state = record { frames = reverse frames; values = values; outcome = outcome }

  chosen_here : (number place : ℕ) → Some (number, place) ≡ found_place (first_arm (fitting meaning names values) 1 arms)
      → step plan.segments (patterns_match meaning names) chosen_state ≡ acts (chooses number) (cursor frames place values outcome)
  chosen_here number place found =
      let (arm, is_found, at) = found_some (first_arm (fitting meaning names values) 1 arms) number place found in
      let under = below plan (patterns_match meaning names) frames values outcome top is exit instr stands in
      step_top plan (patterns_match meaning names) frames values outcome top is exit instr stands
      ∙ ap (obeyed (patterns_match meaning names) exit top under values outcome) same
      ∙ ap (chosen exit top under values outcome) is_found
      ∙ ap (λ (to : ℕ). acts (chooses number) (going_to to top under values outcome)) at
      ∙ ap (acts (chooses number)) (cursor_top plan (patterns_match meaning names) frames values outcome top is exit instr stands place)

  -- after a choice the place is the arm's
  pub chosen_behind : (number place : ℕ) → Some (number, place) ≡ found_place (first_arm (fitting meaning names values) 1 arms)
      → (act : Act) × (step plan.segments (patterns_match meaning names) chosen_state ≡ acts act (cursor frames place values outcome))
  chosen_behind number place found = (chooses number, chosen_here number place found)

  -- the choice comes next
  pub chosen_next : (number place : ℕ) → Some (number, place) ≡ found_place (first_arm (fitting meaning names values) 1 arms)
      → next_by (step plan.segments (patterns_match meaning names) chosen_state) ≡ Some (nexts.Choose number)
  chosen_next number place found = ap next_by (chosen_here number place found)

-- ---- the code's moves

frames_alike : (place : ℕ) (frames : List Frame) (values : List Value) (outcome : Outcome) → let a = cursor_on place frames values outcome in let b = cursor_on place frames [] Good in a.frames ≡ b.frames
frames_alike place [] values outcome = refl
frames_alike place (frame ∷ frames) values outcome = refl

module _ (plan : Plan) (verified : IsVerified plan) (matches : Matches) (frames : List Frame) (values : List Value) (outcome : Outcome) where
  abbrev before : State
  before = record { frames = reverse frames; values = values; outcome = outcome }

  -- after an event the innermost frame is placed
  pub behind_placed : (place : ℕ) → ArePlaced plan (reverse frames) → IsBehind frames values outcome (step plan.segments matches before) (Some place) → IsCursorPlaced plan frames place
  behind_placed place placed (act, made) =
      subst (ArePlaced plan) (frames_alike place (reverse frames) values outcome) (acts_keeps plan verified matches before (cursor frames place values outcome) act placed made)

  -- the event and what silent steps after it lead to
  pub moves_on : (place : ℕ) (landing : Landing) (new : State) → IsBehind frames values outcome (step plan.segments matches before) (Some place)
      → Lands plan matches frames (cursor frames place values outcome) values landing → new ≡ landed landing frames values → MovesOn plan matches before new
  moves_on place landing new (act, made) lands is = record {
    act = act;
    after = cursor frames place values outcome;
    made = made;
    steps = lands.steps;
    settles = is ∙ sym lands.same;
    rests = subst (λ (s : State). IsSome (next_by (step plan.segments matches s))) (sym is) lands.rests;
  }

  -- the end
  pub moves_out : (new : State) → IsBehind frames values outcome (step plan.segments matches before) None
      → new ≡ record { frames = []; values = values; outcome = outcome } → MovesOn plan matches before new
  moves_out new (act, made) is = record {
    act = act;
    after = record { frames = []; values = values; outcome = outcome };
    made = made;
    steps = 0;
    settles = is;
    rests = subst (λ (s : State). IsSome (next_by (step plan.segments matches s))) (sym is) refl;
  }

pub on_ok : {T E P Q : Type 0} (r : Result T E) → OnOk r P → (P → Q) → OnOk r Q
on_ok (Ok x) holds more = more holds
on_ok (Err e) holds more = tt
