-- What the state of some flows is seen as, and what it keeps at every moment.
use Rattle.std.specs.Prelude.{ℕ, ◌≤◌, if◌then◌else◌, List, length, refl}
use Rattle.std.specs.List.{AllByRecursion}
use Rattle.std.specs.Arc.{arc_value}
use Rattle.std.specs.Coded.{Coded, code_by, coded×, coded_list}
use Rattle.flux_values.specs.contracts.cells.Cell as cell
use Rattle.flux_values.specs.Meanings.{LibraryMeaning}
use Rattle.flux_library.specs.Libraries.{IsLawful}
use Rattle.flux_model.specs.declared.programs.Program.{Program}
use Rattle.flux_model.specs.contracts.programs.Program as program
use Rattle.flux_model.specs.declared.items.Item.{Item}
use Rattle.flux_model.specs.contracts.items.Item as item
use Rattle.flow_model.specs.declared.journals.Entry.{Entry}
use Rattle.flow_model.specs.contracts.journals.Entry as entry
use Rattle.flow_model.specs.contracts.journals.Key as key
use Rattle.flow_model.specs.Setup.{Setup}
use Rattle.flux_model.specs.Kinds.{NodeKinds}
use Rattle.flux_model.specs.Items.{IsItemFor}
use Rattle.flux_model.specs.Soundness.{IsSound}
use Rattle.flow_model.specs.Legal.{IsLegal}
use Rattle.flux_laws.specs.Hoisted.{locks_of}
use Rattle.flux_laws.specs.Growth.{has_ended, sum_below}
use Rattle.flux_plan.specs.declared.plans.Plan.{Plan}
use Rattle.flux_plan.specs.contracts.plans.Plan as plan
use Rattle.flux_plan.specs.Runs.{ArePlansOf}
use Rattle.flux_cells.specs.Kept.{Kept, cells_of}
use Rattle.flow_state.specs.declared.setups.Setup as code

-- ---- what is seen

-- what flows run in: a program with its plans, an item for each flow, the cells at the start, and the library
pub record SetupState (L : Type 0) : Type 0 where
  pub program : Program
  pub plans : List Plan
  pub items : List Item
  pub opening : Kept
  pub library : L

-- some flows: what they run in, and the entries that they made so far
pub record FlowState (L : Type 0) : Type 0 where
  pub setup : SetupState L
  pub entries : List Entry

-- their codes, as pairs
abbrev pub setup_code : {L : Type 0} → Coded L → Coded (SetupState L)
setup_code {L} library = code_by (Program × (List Plan × (List Item × (Kept × L))))
    (coded× program.the_row.coded (coded× (coded_list plan.the_row.coded)
    (coded× (coded_list item.the_row.coded)
    (coded× (coded_list (coded× key.the_row.coded cell.the_row.coded)) library))))
    (λ s. (s.program, (s.plans, (s.items, (s.opening, s.library)))))
    (λ t. record {
      program = t.0;
      plans = t.1.0;
      items = t.1.1.0;
      opening = t.1.1.1.0;
      library = t.1.1.1.1;
    })
    (λ _. refl)

abbrev pub state_code : {L : Type 0} → Coded L → Coded (FlowState L)
state_code {L} library = code_by (SetupState L × List Entry)
    (coded× (setup_code library) (coded_list entry.the_row.coded))
    (λ s. (s.setup, s.entries)) (λ t. record { setup = t.0; entries = t.1 }) (λ _. refl)

-- what a setup is seen as
abbrev pub setup_of : {L : Type 0} → code.Setup L → SetupState L
setup_of setup = record {
  program = arc_value setup.program;
  plans = arc_value setup.plans;
  items = setup.items;
  opening = setup.opening;
  library = arc_value setup.library;
}

-- what journals are judged by: a program with the locks of its nodes, its items and opening cells, and what its
-- library means
abbrev pub setup_by : {L : Type 0} → (L → LibraryMeaning) → SetupState L → Setup
setup_by meaning setup = record {
  program = setup.program;
  locks = locks_of setup.program;
  items = setup.items;
  opening = cells_of setup.opening;
  meaning = meaning setup.library;
}

abbrev pub setup_at : {L : Type 0} → (L → LibraryMeaning) → FlowState L → Setup
setup_at meaning state = setup_by meaning state.setup

-- the number of flows without `end`
abbrev pub live_at : {L : Type 0} → FlowState L → ℕ
live_at state =
    sum_below (λ flow. if has_ended state.entries flow then 0 else 1) (length state.setup.items)

-- ---- what is asked and kept

-- a program with its plans and items may be run: it is sound for the library, has the plans, and the items have their
-- sources' kinds and are at most 4,096
pub record MayRun (meaning : LibraryMeaning) (p : Program) (plans : List Plan) (items : List Item)
    : Type 0 where
  pub kinds : ℕ → NodeKinds
  pub sound : IsSound meaning p kinds
  pub fit : AllByRecursion (IsItemFor p kinds) items
  pub few : length items ≤ 4096
  pub plans_ : ArePlansOf p plans

-- at every moment: the program is sound for its lawful library and has these plans, the items have their sources'
-- kinds, and the entries are legal
pub record IsLegalState {L : Type 0} (meaning : L → LibraryMeaning) (state : FlowState L) : Type 0 where
  pub lawful : IsLawful (meaning state.setup.library)
  pub kinds : ℕ → NodeKinds
  pub sound : IsSound (meaning state.setup.library) state.setup.program kinds
  pub fit : AllByRecursion (IsItemFor state.setup.program kinds) state.setup.items
  pub few : length state.setup.items ≤ 4096
  pub plans_ : ArePlansOf state.setup.program state.setup.plans
  pub legal : IsLegal (setup_at meaning state) state.entries
