-- What a setup is seen as, and a core that is opened with it.
use Rattle.std.proofs.Common.{◌≡◌, ℕ, zero, suc, List, [], ◌∷◌, map, Option, None, Result, Ok, Err, IfOk, refl, sym, ap, subst, ◌∙◌}
use Rattle.std.specs.List.{slice_get}
use Rattle.std.specs.Option.{option_flatten}
use Rattle.std.specs.Arc.{arc_value}
use Rattle.flux_values.specs.Meanings.{LibraryMeaning}
use Rattle.flux_model.specs.declared.programs.Program.{Program}
use Rattle.flux_model.specs.declared.items.Item.{Item}
use Rattle.flux_laws.specs.Hoisted.{locks_of}
use Rattle.flux_plan.specs.declared.plans.Plan.{Plan}
use Rattle.flux_plan.specs.Runs.{ArePlansOf}
use Rattle.flux_cells.specs.Kept.{cells_of}
use Rattle.flow_state.specs.declared.inputs.Inputs.{Inputs}
use Rattle.flow_state.specs.declared.setups.Setup as code
use Rattle.flow_state.specs.States as state
use Rattle.flow_state.specs.States.{setup_by, MayRun}
use Rattle.flow_core.specs.States.{CoreState, setup_in, begun_by, opened}
use Rattle.flux_runs.specs.Setups.{setup_of}
use Rattle.flux_runs.specs.Opening.{CanRun, IsSetUp}
use Rattle.flux_runs.specs.steps.Parts.{HasParts}

module _ {L : Type 0} (meaning : L → LibraryMeaning) (program : Program) (plans : List Plan) (items : List Item)
    (library : L) (setup : code.Setup L) (parts : HasParts program plans items library setup) where
  -- what can be run with its plans may be
  may_run : CanRun (meaning library) program items → ArePlansOf program plans
      → MayRun (meaning (arc_value setup.library)) (arc_value setup.program) (arc_value setup.plans) setup.items
  may_run can are =
      let own : MayRun (meaning library) program plans items =
      record { kinds = can.kinds; sound = can.sound; fit = can.fit; few = can.few; plans_ = are } in
      subst (λ (l : L). MayRun (meaning l) (arc_value setup.program) (arc_value setup.plans) setup.items)
      (sym parts.library_)
      (subst (λ (p : Program). MayRun (meaning library) p (arc_value setup.plans) setup.items) (sym parts.program_)
      (subst (λ (ps : List Plan). MayRun (meaning library) program ps setup.items) (sym parts.plans_)
      (subst (λ (its : List Item). MayRun (meaning library) program plans its) (sym parts.items_) own)))

  -- it is seen as the program with its locks, and cells that are all empty
  setup_is : setup_by meaning (state.setup_of setup) ≡ setup_of program (locks_of program) items (meaning library)
  setup_is = λ i. record {
    program = parts.program_ i;
    locks = locks_of (parts.program_ i);
    items = parts.items_ i;
    opening = cells_of (parts.opening i);
    meaning = meaning (parts.library_ i);
  }

  is_set_up : CanRun (meaning library) program items → ArePlansOf program plans
      → IsSetUp meaning library program items setup
  is_set_up can are = record { program_ = parts.program_; may = may_run can are; is = setup_is }

pub all_set_up : {L E : Type 0} (meaning : L → LibraryMeaning) (program : Program) (plans : List Plan) (items : List Item)
    (library : L) (result : Result (code.Setup L) E) → CanRun (meaning library) program items → ArePlansOf program plans
    → IfOk result (HasParts program plans items library) → IfOk result (IsSetUp meaning library program items)
all_set_up meaning program plans items library (Ok setup) can are parts =
    is_set_up meaning program plans items library setup parts can are
all_set_up meaning program plans items library (Err e) can are parts = tt

-- ---- cores

-- where no call is begun
none-begun : (items : List Item) (flow : ℕ)
    → option_flatten (slice_get (let none : List (Option Inputs) = map (λ item. None) items in none) flow) ≡ None
none-begun [] flow = refl
none-begun (item ∷ items) zero = refl
none-begun (item ∷ items) (suc flow) = none-begun items flow

module _ {L : Type 0} (meaning : L → LibraryMeaning) (library : L) (p : Program) (items : List Item)
    (setup : code.Setup L) (is : IsSetUp meaning library p items setup) (core : CoreState L)
    (same : core ≡ opened (arc_value setup.program) (arc_value setup.plans) setup.items setup.opening
    (arc_value setup.library)) where
  pub no_entries : core.entries ≡ []
  no_entries = ap (λ (k : CoreState L). k.entries) same

  pub all_idle : (flow : ℕ) → begun_by core flow ≡ None
  all_idle flow = ap (λ (k : CoreState L). begun_by k flow) same ∙ none-begun setup.items flow

  pub core_is : setup_in meaning core ≡ setup_of p (locks_of p) items (meaning library)
  core_is = ap (setup_in meaning) same ∙ is.is
