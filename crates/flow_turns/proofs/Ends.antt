-- What a flow came to in a turn.
use Rattle.std.proofs.Common.{◌≡◌, inl, inr, ℕ, ◌+◌, ◌<◌, zero, suc, true, false, List, [], ◌∷◌, length, Some, refl, sym, ap, subst, ◌∙◌, arith}
use Rattle.std.specs.List.{slice_get, slice_set}
use Rattle.std.specs.Option.{option_flatten}
use Rattle.std.proofs.lemmas.List.{length-append}
use Rattle.flux_values.specs.Meanings.{LibraryMeaning}
use Rattle.flux_model.specs.declared.items.FlowNo.{FlowNo}
use Rattle.flow_model.specs.declared.journals.Key.{Key}
use Rattle.flux_laws.specs.Growth.{has_ended}
use Rattle.flow_state.proofs.Sets.{length-replaced}
use Rattle.flow_core.specs.States.{CoreState, JobState, begun_by}
use Rattle.flow_core.specs.Moves.{HasWaited, HasBegun, HasStepped}
use Rattle.flow_core.specs.Runs.{LeavesOthers}
use Rattle.flow_core.specs.declared.cores.Step.TheVariants as steps
use Rattle.flow_turns.specs.Turns.{IsOwnCall, StaysOn, ComesToEnd, ComesToWait, ComesToCall, GoesFurther}

set-there : {X : Type 0} (xs : List X) (k : ℕ) (x : X) → k < length xs → slice_get (slice_set xs k x) k ≡ Some x
set-there [] k x within = absurd (omega (arith, within))
set-there (y ∷ xs) zero x within = refl
set-there (y ∷ xs) (suc k) x within = set-there xs k x (omega (arith, within))

module _ {L : Type 0} (meaning : L → LibraryMeaning) (first mid : CoreState L) (flow : FlowNo) where
  -- what the turn keeps up to its last step
  pub record Keeps : Type 0 where
    pub begun_ : mid.begun ≡ first.begun
    pub halted_ : mid.halted ≡ first.halted

  module _ (was : first.halted ≡ false) (keeps : Keeps) (new : CoreState L) (leaves : LeavesOthers mid new flow) where
    is-on : new.halted ≡ false
    is-on = let setting = leaves.setting in setting.halted_ ∙ (keeps.halted_ ∙ was)

    stays-on : new.begun ≡ mid.begun → StaysOn meaning first new flow
    stays-on same = record { was = was; is = is-on; begun_ = same ∙ keeps.begun_ }

    pub comes-to-end : HasStepped meaning mid new flow steps.Ended → ComesToEnd meaning first new flow
    comes-to-end (ended, same) = record {
      on = stays-on (ap (λ c. c.begun) same);
      ended = subst (λ c. has_ended c.entries flow.0 ≡ true) (sym same) ended;
    }

    pub comes-to-wait : (key : Key) (blocker : FlowNo) → HasWaited meaning mid new flow key blocker
        → ComesToWait meaning first new flow blocker
    comes-to-wait key blocker waited = record {
      on = stays-on (elim waited.noted [
        | inl adds ↦ ap (λ c. c.begun) adds.new_
        | inr stood ↦ ap (λ c. c.begun) stood.2
      ]);
      waits = record { before = mid; key = key; waited = waited };
    }

    pub comes-to-own : (job : JobState L) → IsOwnCall new flow job → ComesToCall meaning first new flow job
    comes-to-own job own = record { was = was; is = is-on; own = own }

    pub comes-to-call : (job : JobState L) → HasBegun meaning mid new flow job → flow.0 < length new.begun
        → ComesToCall meaning first new flow job
    comes-to-call job has within =
        let begins = has.begins in
        let long = ap length (ap (λ c. c.begun) begins.new_) ∙ length-replaced mid.begun flow.0 (Some has.inputs) in
        let there : begun_by new flow.0 ≡ Some has.inputs = ap (λ c. begun_by c flow.0) begins.new_
        ∙ ap option_flatten (set-there mid.begun flow.0 (Some has.inputs) (omega (arith, long, within))) in
        let setting = leaves.setting in
        comes-to-own job (record {
          flow_ = ap (λ j. j.flow) has.job_;
          begun = there ∙ ap (λ j. Some j.inputs) (sym has.job_);
          call = record {
            program = ap (λ j. j.program) has.job_ ∙ sym (ap (λ s. s.program) setting.setup_);
            library = ap (λ j. j.library) has.job_ ∙ sym (ap (λ s. s.library) setting.setup_);
          };
        })

    pub keeps-on : HasStepped meaning mid new flow steps.Went → (new.begun ≡ first.begun) × (new.halted ≡ first.halted)
    keeps-on (event, makes) = let setting = leaves.setting in
        (ap (λ c. c.begun) makes.new_ ∙ keeps.begun_, setting.halted_ ∙ keeps.halted_)

    pub one-longer : HasStepped meaning mid new flow steps.Went → length new.entries ≡ length mid.entries + 1
    one-longer (event, makes) = ap (λ c. length c.entries) makes.new_
        ∙ length-append mid.entries (record { flow = flow; event = event } ∷ [])

  pub goes-further : first.halted ≡ false → Keeps → length first.entries < length mid.entries
      → GoesFurther meaning first mid flow
  goes-further was keeps longer = record {
    on = record { was = was; is = keeps.halted_ ∙ was; begun_ = keeps.begun_ };
    longer = longer;
  }
