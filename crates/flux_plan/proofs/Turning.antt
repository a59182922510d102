-- The silent steps of a flow's place, as the code takes them.
use Rattle.std.proofs.Common.{◌≡◌, ℕ, ◌+◌, ◌^◌, ◌<◌, List, Option, Some, None, refl, ap, ◌∙◌}
use Rattle.flux_values.specs.declared.values.Value.{Value}
use Rattle.flux_values.specs.Meanings.{LibraryMeaning}
use Rattle.flux_model.specs.declared.programs.HandleArm.{HandleArm}
use Rattle.flow_model.specs.declared.journals.Outcome.{Outcome}
use Rattle.flow_model.specs.declared.journals.Outcome.TheVariants.{Bad}
use Rattle.flow_model.specs.Matching.{patterns_match}
use Rattle.flux_plan.specs.declared.plans.Plan.{Plan}
use Rattle.flux_plan.specs.declared.plans.Arm.{Arm}
use Rattle.flux_plan.specs.declared.plans.Instr.{Instr}
use Rattle.flux_plan.specs.declared.plans.Instr.TheVariants.{Choose, Handle}
use Rattle.flux_plan.specs.declared.stacks.Frame.{Frame}
use Rattle.flux_plan.specs.Machine.{silent, Matches, first_arm, chosen, obeyed, step_of, step_in, step, going_to, at_place}
use Rattle.flux_plan.specs.Faulty.{IsVerified, IsSized}
use Rattle.flux_plan.specs.steps.Turns.{StandsAt, found_place, fitting}
use Rattle.flux_plan.proofs.Placing.{placed_fits}

-- the step of a frame is that of the instruction that is there
pub step_at : (plan : Plan) (matches : Matches) (place exit : ℕ) (instr : Instr) (frame : Frame) (below : List Frame) (values : List Value) (outcome : Outcome)
    → StandsAt plan frame.node.0 place exit instr
    → step plan.segments matches (going_to place frame below values outcome) ≡ obeyed matches exit (at_place frame place) below values outcome instr
step_at plan matches place exit instr frame below values outcome stands =
    ap (step_in matches (at_place frame place) below values outcome) stands.is
    ∙ ap (step_of matches stands.segment.exit (at_place frame place) below values outcome) stands.at
    ∙ ap (λ (e : ℕ). obeyed matches e (at_place frame place) below values outcome instr) stands.exit_

not_found : (found : Option (ℕ × Arm)) → None ≡ found_place found → found ≡ None
not_found None e = refl
not_found (Some (number, arm)) e = absurd cc

-- where no arm matches, the flow goes to `exit` with code 256
pub none_chosen : (plan : Plan) (meaning : LibraryMeaning) (names : List (List ℕ)) (place exit : ℕ) (arms : List Arm) (frame : Frame) (below : List Frame) (values : List Value) (outcome : Outcome)
    → StandsAt plan frame.node.0 place exit (Choose arms)
    → None ≡ found_place (first_arm (fitting meaning names values) 1 arms)
    → (step plan.segments (patterns_match meaning names) (going_to place frame below values outcome) ≡ silent (going_to exit frame below values (Bad 256))) × (place < exit)
none_chosen plan meaning names place exit arms frame below values outcome stands none = (
  step_at plan (patterns_match meaning names) place exit (Choose arms) frame below values outcome stands
      ∙ ap (chosen exit (at_place frame place) below values outcome) (not_found (first_arm (fitting meaning names values) 1 arms) none),
  stands.led.1,
)

-- two places after `Handle` fit 32 bits
pub handle_fits : (plan : Plan) → IsVerified plan → IsSized plan → (node place exit : ℕ) (arms : List HandleArm) → StandsAt plan node place exit (Handle arms) → place + 2 < 2 ^ 32
handle_fits plan verified sized node place exit arms stands = placed_fits plan verified node (place + 2) stands.led.1 sized
