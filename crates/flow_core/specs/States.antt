-- What a core, its jobs and its finished calls are seen as, and what a core keeps at every moment.
use Rattle.std.specs.Prelude.{◌≡◌, ℕ, ◌≤◌, Bool, false, List, [], map, length, Option, Some, None, refl}
use Rattle.std.specs.Option.{option_flatten}
use Rattle.std.specs.List.{slice_get, AllByRecursion}
use Rattle.std.specs.Coded.{Coded, code_by, coded×, coded_list, coded_option, coded_bool}
use Rattle.flux_values.specs.declared.answers.Answer.{Answer}
use Rattle.flux_values.specs.contracts.answers.Answer as answer
use Rattle.flux_values.specs.Meanings.{LibraryMeaning}
use Rattle.flux_library.specs.Libraries.{IsLawful}
use Rattle.flux_model.specs.declared.programs.Program.{Program}
use Rattle.flux_model.specs.contracts.programs.Program as program
use Rattle.flux_model.specs.declared.items.FlowNo.{FlowNo}
use Rattle.flux_model.specs.contracts.items.FlowNo as flow_no
use Rattle.flux_model.specs.declared.items.Item.{Item}
use Rattle.flow_model.specs.declared.journals.Entry.{Entry}
use Rattle.flow_model.specs.contracts.journals.Entry as entry
use Rattle.flow_model.specs.Setup.{Setup}
use Rattle.flux_model.specs.Kinds.{NodeKinds}
use Rattle.flux_model.specs.Items.{IsItemFor}
use Rattle.flux_model.specs.Soundness.{IsSound}
use Rattle.flow_model.specs.Legal.{IsLegal}
use Rattle.flux_plan.specs.declared.plans.Plan.{Plan}
use Rattle.flux_plan.specs.Runs.{ArePlansOf}
use Rattle.flux_cells.specs.Kept.{Kept}
use Rattle.flow_state.specs.declared.inputs.Inputs.{Inputs}
use Rattle.flow_state.specs.contracts.inputs.Inputs as inputs
use Rattle.flow_state.specs.States.{SetupState, setup_code, setup_by}
use Rattle.flow_state.specs.Calls.{IsNextCall}

-- ---- what is seen

-- a core: what its flows run in, its journal, the call that each flow has begun, and the flag
pub record CoreState (L : Type 0) : Type 0 where
  pub setup : SetupState L
  pub entries : List Entry
  pub begun : List (Option Inputs)
  pub halted : Bool

-- a job: a flow's begun call, with the program and the library that it is run by
pub record JobState (L : Type 0) : Type 0 where
  pub flow : FlowNo
  pub inputs : Inputs
  pub program : Program
  pub library : L

-- a call that was run, with its answer
pub record DoneState (L : Type 0) : Type 0 where
  pub flow : FlowNo
  pub inputs : Inputs
  pub answer : Answer
  pub program : Program
  pub library : L

-- their codes, as pairs
abbrev pub core_code : {L : Type 0} → Coded L → Coded (CoreState L)
core_code {L} library = code_by (SetupState L × (List Entry × (List (Option Inputs) × Bool)))
    (coded× (setup_code library) (coded× (coded_list entry.the_row.coded)
    (coded× (coded_list (coded_option inputs.the_row.coded)) coded_bool)))
    (λ c. (c.setup, (c.entries, (c.begun, c.halted))))
    (λ t. record { setup = t.0; entries = t.1.0; begun = t.1.1.0; halted = t.1.1.1 }) (λ _. refl)

abbrev pub job_code : {L : Type 0} → Coded L → Coded (JobState L)
job_code {L} library = code_by (FlowNo × (Inputs × (Program × L)))
    (coded× flow_no.the_row.coded (coded× inputs.the_row.coded (coded× program.the_row.coded library)))
    (λ j. (j.flow, (j.inputs, (j.program, j.library))))
    (λ t. record { flow = t.0; inputs = t.1.0; program = t.1.1.0; library = t.1.1.1 }) (λ _. refl)

abbrev pub done_code : {L : Type 0} → Coded L → Coded (DoneState L)
done_code {L} library = code_by (FlowNo × (Inputs × (Answer × (Program × L))))
    (coded× flow_no.the_row.coded (coded× inputs.the_row.coded
    (coded× answer.the_row.coded (coded× program.the_row.coded library))))
    (λ d. (d.flow, (d.inputs, (d.answer, (d.program, d.library)))))
    (λ t. record {
      flow = t.0;
      inputs = t.1.0;
      answer = t.1.1.0;
      program = t.1.1.1.0;
      library = t.1.1.1.1;
    })
    (λ _. refl)

-- what journals are judged by
abbrev pub setup_in : {L : Type 0} → (L → LibraryMeaning) → CoreState L → Setup
setup_in meaning core = setup_by meaning core.setup

-- the call that a flow has begun
abbrev pub begun_by : {L : Type 0} → CoreState L → ℕ → Option Inputs
begun_by core flow = option_flatten (slice_get core.begun flow)

-- a core whose flows have done nothing
abbrev pub opened : {L : Type 0} → Program → List Plan → List Item → Kept → L → CoreState L
opened program plans items opening library = record {
  setup = record {
    program = program;
    plans = plans;
    items = items;
    opening = opening;
    library = library;
  };
  entries = [];
  begun = map (λ item. None) items;
  halted = false;
}

-- ---- what a core keeps

-- at every moment: the program is sound for its lawful library and has these plans, the items have their sources'
-- kinds, the journal is legal, and each begun call is its flow's next, on the cells after the journal
pub record IsKept {L : Type 0} (meaning : L → LibraryMeaning) (core : CoreState L) : Type 0 where
  pub lawful : IsLawful (meaning core.setup.library)
  pub kinds : ℕ → NodeKinds
  pub sound : IsSound (meaning core.setup.library) core.setup.program kinds
  pub fit : AllByRecursion (IsItemFor core.setup.program kinds) core.setup.items
  pub few : length core.setup.items ≤ 4096
  pub plans_ : ArePlansOf core.setup.program core.setup.plans
  pub legal : IsLegal (setup_in meaning core) core.entries
  pub each : length core.begun ≡ length core.setup.items
  pub calls : (flow : ℕ) (inputs : Inputs) → begun_by core flow ≡ Some inputs
      → IsNextCall (setup_in meaning core) core.entries flow inputs
