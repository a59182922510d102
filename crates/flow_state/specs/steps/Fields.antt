-- What the fields of a state mean, and what holds of them. No promise cites it.
use Rattle.std.specs.Prelude.{◌≡◌, ◌≤◌, ℕ, List, length}
use Rattle.std.specs.List.{AllByRecursion}
use Rattle.std.specs.Arc.{arc_value}
use Rattle.flux_values.specs.Meanings.{LibraryMeaning}
use Rattle.flux_library.specs.Libraries.{IsLawful}
use Rattle.flow_model.specs.declared.journals.Entry.{Entry}
use Rattle.flow_model.specs.Setup.{Setup}
use Rattle.flow_model.specs.Keys.{Cells}
use Rattle.flux_model.specs.Kinds.{NodeKinds}
use Rattle.flux_model.specs.Items.{IsItemFor}
use Rattle.flux_model.specs.Soundness.{IsSound}
use Rattle.flow_model.specs.CellsAfter.{cells_after}
use Rattle.flow_model.specs.Legal.{IsLegal}
use Rattle.flux_plan.specs.declared.plans.Plan.{Plan}
use Rattle.flux_plan.specs.Runs.{ArePlansOf}
use Rattle.flux_table.specs.Tables.{Locks}
use Rattle.flux_cells.specs.Kept.{cells_of}
use Rattle.flow_state.specs.declared.places.Place.{Place}
use Rattle.flow_state.specs.declared.fields.Fields.{Fields}
use Rattle.flow_state.specs.States.{FlowState, setup_of, setup_at, live_at}
use Rattle.flow_state.specs.steps.Places.{ArePlaces}
use Rattle.flow_state.specs.steps.Cells.{classes_read}
use Rattle.flow_state.specs.steps.Table.{IsTable}

-- ---- what the fields mean

abbrev pub state_of : {L : Type 0} → Fields L → FlowState L
state_of {L} r = record { setup = setup_of r.setup; entries = r.made }

abbrev pub plans_of : {L : Type 0} → Fields L → List Plan
plans_of {L} r = let setup = r.setup in arc_value setup.plans

-- ---- what holds of them

-- what no move changes
pub record IsGiven (setup : Setup) (plans : List Plan) : Type 0 where
  pub lawful : IsLawful setup.meaning
  pub kinds : ℕ → NodeKinds
  pub sound : IsSound setup.meaning setup.program kinds
  pub fit : AllByRecursion (IsItemFor setup.program kinds) setup.items
  pub few : length setup.items ≤ 4096
  pub plans_ : ArePlansOf setup.program plans

-- what holds after some entries
pub record IsAfter (setup : Setup) (plans : List Plan) (entries : List Entry) (places : List Place)
    (locks : Locks) (cells : Cells) : Type 0 where
  pub legal : IsLegal setup entries
  pub places_ : ArePlaces setup plans entries places
  pub table : IsTable entries locks
  pub cells_ : cells ≡ cells_after setup entries

abbrev pub IsAfterIn : {L : Type 0} → (L → LibraryMeaning) → Fields L → Type 0
IsAfterIn {L} meaning r = IsAfter (setup_at meaning (state_of r)) (plans_of r) r.made r.places.items r.table
    (cells_of r.cells)

pub record AreFields {L : Type 0} (meaning : L → LibraryMeaning) (r : Fields L) : Type 0 where
  pub given : IsGiven (setup_at meaning (state_of r)) (plans_of r)
  pub after : IsAfterIn meaning r
  pub live : r.live ≡ live_at (state_of r)
  pub reads_ : let setup = setup_at meaning (state_of r) in r.reads ≡ classes_read setup.meaning setup.program
