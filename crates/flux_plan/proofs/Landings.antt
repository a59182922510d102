-- Where silent steps lead to, as the code goes down the frames.
use Rattle.std.proofs.Common.{◌≡◌, ℕ, zero, suc, ◌+◌, ◌-◌, ◌^◌, ◌<◌, List, [], ◌∷◌, ◌++◌, length, get_or, take, reverse, Option, refl, sym, ap, ◌∙◌, subst, arith}
use Rattle.std.specs.Prelude.{IsSome}
use Rattle.std.proofs.lemmas.List.{reverse-append, take_more, take_all, take-take, length-take-le}
use Rattle.flux_values.specs.declared.values.Value.{Value}
use Rattle.flux_model.specs.declared.programs.NodeNo.{NodeNo}
use Rattle.flow_model.specs.declared.journals.Outcome.{Outcome}
use Rattle.flow_model.specs.declared.journals.Outcome.TheVariants.{Good}
use Rattle.flux_plan.specs.declared.plans.Plan.{Plan}
use Rattle.flux_plan.specs.declared.plans.Segment.{Segment}
use Rattle.flux_plan.specs.declared.plans.Instr.{Instr}
use Rattle.flux_plan.specs.declared.plans.Instr.TheVariants.{Take, Enter}
use Rattle.flux_plan.specs.declared.stacks.Frame.{Frame}
use Rattle.flux_plan.specs.declared.machines.Turn.TheVariants.{To, Out, Stop}
use Rattle.flux_plan.specs.declared.machines.Landing.{Landing}
use Rattle.flux_plan.specs.declared.machines.Entering.{Entering}
use Rattle.flux_plan.specs.declared.machines.Entering.TheVariants.{Nothing, Node, Handler}
use Rattle.flux_plan.specs.Machine.{State, Step, Act, silent, acts, calls, ended, stuck, Matches, step, step_in, step_of, obeyed, going_to, at_place, entering}
use Rattle.flux_plan.specs.Moves.{next_by, after_silence, settled}
use Rattle.flux_plan.specs.Faulty.{IsVerified, IsSized}
use Rattle.flux_plan.specs.steps.Placed.{IsPlaced, ArePlaced}
use Rattle.flux_plan.specs.steps.Turns.{IsOpening, entered_in, IsTurn, cursor_on, cursor, landed_on, landed, Lands, IsLanding}
use Rattle.flux_plan.proofs.Placing.{placed_goes, opening, placed_fits}
use Rattle.flux_plan.proofs.Stepping.{Keeps, step_keeps}

-- ---- silent steps, one after another

-- one silent step more
pub settled-next : (segments : List Segment) (matches : Matches) (n : ℕ) (state before after : State)
    → settled segments matches n state ≡ before → step segments matches before ≡ silent after
    → settled segments matches (suc n) state ≡ after
settled-next segments matches zero state before after same made =
    ap (after_silence (settled segments matches 0) state) (ap (step segments matches) same ∙ made)
settled-next segments matches (suc n) state before after same made = by (step segments matches state) refl same
    (λ next h. settled-next segments matches n next before after h made)
  where
    at_rest : (own : Step) → step segments matches state ≡ own → state ≡ before → own ≡ silent after
    at_rest own e h = sym e ∙ ap (step segments matches) h ∙ made

    by : (own : Step) → step segments matches state ≡ own → after_silence (settled segments matches n) state own ≡ before
        → ((next : State) → settled segments matches n next ≡ before → settled segments matches (suc n) next ≡ after)
        → after_silence (settled segments matches (suc n)) state own ≡ after
    by (silent next) e h more = more next h
    by (acts act next) e h more = absurd (let x : acts act next ≡ silent after = at_rest (acts act next) e h in cc)
    by (calls node) e h more = absurd (let x : calls node ≡ silent after = at_rest (calls node) e h in cc)
    by ended e h more = absurd (let x : ended ≡ silent after = at_rest ended e h in cc)
    by stuck e h more = absurd (let x : stuck ≡ silent after = at_rest stuck e h in cc)

-- ---- frames

-- the innermost frame comes last
pub reverse_last : {X : Type 0} (frames : List X) (top : X) → 0 < length frames → top ≡ get_or frames (length frames - 1) top
    → reverse frames ≡ top ∷ reverse (take (length frames - 1) frames)
reverse_last {X} frames top some is =
    let n = length frames - 1 in
    let all : take (n + 1) frames ≡ frames = take_all (n + 1) frames (omega arith) in
    let more : take (n + 1) frames ≡ take n frames ++ get_or frames n top ∷ [] = take_more frames n top (omega arith) in
    let whole : frames ≡ take n frames ++ top ∷ [] = sym all ∙ more ∙ ap (λ (f : X). take n frames ++ f ∷ []) (sym is) in
    ap reverse whole ∙ reverse-append (take n frames) (top ∷ [])

module _ (plan : Plan) (verified : IsVerified plan) (matches : Matches) where
  -- after a silent step frames are placed
  pub silent_keeps : (state next : State) → ArePlaced plan state.frames → step plan.segments matches state ≡ silent next → ArePlaced plan next.frames
  silent_keeps state next placed made = subst (Keeps plan state) made (step_keeps plan verified matches state placed)

  -- so does an event
  pub acts_keeps : (state next : State) (act : Act) → ArePlaced plan state.frames → step plan.segments matches state ≡ acts act next → ArePlaced plan next.frames
  acts_keeps state next act placed made = subst (Keeps plan state) made (step_keeps plan verified matches state placed)

  opening_rests : (exit : ℕ) (frame : Frame) (below : List Frame) (values : List Value) (instr : Instr) → IsOpening instr → IsSome (next_by (obeyed matches exit frame below values Good instr))
  opening_rests exit frame below values (Take class mode) is = refl
  opening_rests exit frame below values Enter is = refl
  opening_rests exit frame below values other is = absurd is

  -- a node that was just entered is at rest
  pub entering_rests : (node : NodeNo) (values : List Value) (below : List Frame) → IsPlaced plan node.0 0 → IsSome (next_by (step plan.segments matches (entering node values below)))
  entering_rests node values below placed =
      let on = placed_goes plan verified node.0 0 placed in
      let frame : Frame = record { node = node; place = 0; inputs = values } in
      let P : Option Segment → Type 0 = λ s. IsSome (next_by (step_in matches frame below values Good s)) in
      let Q : Option Instr → Type 0 = λ i. IsSome (next_by (step_of matches placed.segment.exit frame below values Good i)) in
      subst P (sym placed.is) (subst Q (sym on.is) (opening_rests placed.segment.exit frame below values on.instr (opening plan verified node.0 0 placed refl)))

  module _ (frames : List Frame) (start : State) (values : List Value) (left : List Frame) (top : Frame) (place : ℕ) (outcome : Outcome)
      (so_far : IsLanding plan matches frames start values left place outcome) (is : top ≡ get_or left (length left - 1) top) where
    abbrev below : List Frame
    below = reverse (take (length left - 1) left)

    turned : reverse left ≡ top ∷ below
    turned = reverse_last left top so_far.some is

    at_cursor : (at : ℕ) (all : List Value) (after : Outcome) → cursor left at all after ≡ going_to at top below all after
    at_cursor at all after = ap (λ (fs : List Frame). cursor_on at fs all after) turned

    here : settled plan.segments matches so_far.steps start ≡ going_to place top below values outcome
    here = so_far.same ∙ at_cursor place values outcome

    placed_here : let state = going_to place top below values outcome in ArePlaced plan state.frames
    placed_here = subst (λ (s : State). ArePlaced plan s.frames) (at_cursor place [] Good) so_far.placed

    -- a step to another place of the frame
    pub landing_to : (next : ℕ) (after : Outcome) → IsTurn top place below values outcome (step plan.segments matches (going_to place top below values outcome)) (To next after)
        → IsLanding plan matches frames start values left next after
    landing_to next after (made, further) = record {
      steps = suc so_far.steps;
      same = settled-next plan.segments matches so_far.steps start (going_to place top below values outcome) (going_to next top below values after) here made ∙ sym (at_cursor next values after);
      placed = subst (λ (s : State). ArePlaced plan s.frames) (sym (at_cursor next [] Good)) (silent_keeps (going_to place top below values outcome) (going_to next top below values after) placed_here made);
      some = so_far.some;
      front = so_far.front;
      most = so_far.most;
    }

    -- a step out of the frame, to the one below it
    module _ (next : Frame) (more : 0 < length left - 1) (next_is : let lower = take (length left - 1) left in next ≡ get_or lower (length lower - 1) next) where
      abbrev lower : List Frame
      lower = take (length left - 1) left

      fewer : length lower ≡ length left - 1
      fewer = length-take-le (length left - 1) left (omega arith)

      next_turned : reverse lower ≡ next ∷ reverse (take (length lower - 1) lower)
      next_turned = reverse_last lower next (omega (arith, fewer, more)) next_is

      -- the frame below goes on where it is
      stays : (all : List Value) (after : Outcome) → cursor lower next.place all after ≡ record { frames = below; values = all; outcome = after }
      stays all after =
          ap (λ (fs : List Frame). cursor_on next.place fs all after) next_turned
          ∙ ap (λ (fs : List Frame). let s : State = record { frames = fs; values = all; outcome = after } in s) (sym next_turned)

      pub landing_out : IsTurn top place below values outcome (step plan.segments matches (going_to place top below values outcome)) Out
          → IsLanding plan matches frames start values lower next.place outcome
      landing_out (made, some) =
          let after : State = record { frames = below; values = values; outcome = outcome } in
          record {
            steps = suc so_far.steps;
            same = settled-next plan.segments matches so_far.steps start (going_to place top below values outcome) after here made ∙ sym (stays values outcome);
            placed = subst (λ (s : State). ArePlaced plan s.frames) (sym (stays [] Good)) (silent_keeps (going_to place top below values outcome) after placed_here made);
            some = omega (arith, fewer, more);
            front = ap (λ (n : ℕ). take n frames) fewer ∙ sym (take-take (length left - 1) (length left) frames (omega arith)) ∙ ap (take (length left - 1)) so_far.front;
            most = let h = so_far.most in omega (arith, fewer, h);
          }

    module _ (at : ℕ) (entering_ : Entering) where
      abbrev the : Landing
      the = record { depth = length left; place = at; outcome = outcome; entering = entering_ }

      lands_as : landed the frames values ≡ entered_in entering_ at top below values outcome
      lands_as =
          ap (λ (fs : List Frame). landed_on the (reverse fs) values) so_far.front
          ∙ ap (λ (fs : List Frame). landed_on the fs values) turned

      at_rest : (n : ℕ) → settled plan.segments matches n start ≡ entered_in entering_ at top below values outcome
          → IsSome (next_by (step plan.segments matches (entered_in entering_ at top below values outcome)))
          → Lands plan matches frames start values the
      at_rest n same rests = record {
        steps = n;
        same = same ∙ sym lands_as;
        rests = subst (λ (s : State). IsSome (next_by (step plan.segments matches s))) (sym lands_as) rests;
        some = so_far.some;
        most = so_far.most;
      }

    entered : (at : ℕ) (entering_ : Entering) (node : NodeNo) (inputs : List Value)
        → entered_in entering_ at top below values outcome ≡ entering node inputs (at_place top at ∷ below)
        → step plan.segments matches (going_to place top below values outcome) ≡ silent (entering node inputs (at_place top at ∷ below))
        → Lands plan matches frames start values (the at entering_)
    entered at entering_ node inputs same made =
        let after = entering node inputs (at_place top at ∷ below) in
        let all = silent_keeps (going_to place top below values outcome) after placed_here made in
        at_rest at entering_ (suc so_far.steps)
        (settled-next plan.segments matches so_far.steps start (going_to place top below values outcome) after here made ∙ sym same)
        (subst (λ (s : State). IsSome (next_by (step plan.segments matches s))) (sym same) (entering_rests node inputs (at_place top at ∷ below) all.0))

    -- no step, or one into another node
    pub landing_stops : (at : ℕ) (entering_ : Entering) → IsTurn top place below values outcome (step plan.segments matches (going_to place top below values outcome)) (Stop at entering_)
        → Lands plan matches frames start values (the at entering_)
    landing_stops at Nothing (same, rests) =
        let there : going_to place top below values outcome ≡ going_to at top below values outcome = ap (λ (n : ℕ). going_to n top below values outcome) (sym same) in
        at_rest at Nothing so_far.steps (here ∙ there) (subst (λ (s : State). IsSome (next_by (step plan.segments matches s))) there rests)
    landing_stops at (Node node) made = entered at (Node node) node values refl made
    landing_stops at (Handler node) made = entered at (Handler node) node top.inputs refl made

    -- the place of the innermost frame fits 32 bits
    pub landing_fits : IsSized plan → place < 2 ^ 32
    landing_fits sized = placed_fits plan verified top.node.0 place placed_here.0 sized
