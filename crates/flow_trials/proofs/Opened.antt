-- Cores that are opened with what a setup is made of.
use Rattle.std.proofs.Common.{◌≡◌, ℕ, zero, suc, List, [], ◌∷◌, map, Option, None, refl, ap, ◌∙◌}
use Rattle.std.specs.List.{slice_get}
use Rattle.std.specs.Option.{option_flatten}
use Rattle.std.specs.Arc.{arc_value}
use Rattle.flux_values.specs.Meanings.{LibraryMeaning}
use Rattle.flux_model.specs.declared.programs.Program.{Program}
use Rattle.flux_model.specs.declared.items.Item.{Item}
use Rattle.flux_plan.specs.declared.plans.Plan.{Plan}
use Rattle.flow_state.specs.declared.inputs.Inputs.{Inputs}
use Rattle.flow_state.specs.declared.setups.Setup as code
use Rattle.flow_core.specs.States.{CoreState, begun_by, opened}
use Rattle.trial_programs.specs.Made.{IsMadeOf}
use Rattle.flow_trials.specs.Ready.{IsOpened}

-- where no call is begun
abbrev no_calls : List Item → List (Option Inputs)
no_calls items = map (λ item. None) items

none-begun : (items : List Item) (flow : ℕ) → option_flatten (slice_get (no_calls items) flow) ≡ None
none-begun [] flow = refl
none-begun (item ∷ items) zero = refl
none-begun (item ∷ items) (suc flow) = none-begun items flow

module _ {L : Type 0} (meaning : L → LibraryMeaning) (program : Program) (plans : List Plan) (items : List Item)
    (library : L) (setup : code.Setup L) (made : IsMadeOf program plans items library setup) where
  pub is_opened : (core : CoreState L)
      → core ≡ opened (arc_value setup.program) (arc_value setup.plans) setup.items setup.opening (arc_value setup.library)
      → IsOpened program items core
  is_opened core same = record {
    none = ap (λ (k : CoreState L). k.entries) same;
    idle = λ flow. ap (λ (k : CoreState L). begun_by k flow) same ∙ none-begun setup.items flow;
    program_ = ap (λ (k : CoreState L). k.setup.program) same ∙ made.program_;
    items_ = ap (λ (k : CoreState L). k.setup.items) same ∙ made.items_;
  }
