-- Which items can be run, and what a setup and a core that are made for them are.
use Rattle.std.specs.Prelude.{◌≡◌, ◌≤◌, ℕ, List, [], length, Option, Some, None}
use Rattle.std.specs.List.{AllByRecursion, sum_by}
use Rattle.std.specs.Arc.{arc_value}
use Rattle.flux_values.specs.Meanings.{LibraryMeaning}
use Rattle.flux_model.specs.declared.programs.Program.{Program}
use Rattle.flux_model.specs.declared.items.Item.{Item}
use Rattle.flux_model.specs.Items.{IsItemFor}
use Rattle.flux_model.specs.Kinds.{NodeKinds}
use Rattle.flux_model.specs.Soundness.{IsSound}
use Rattle.flux_laws.specs.Growth.{item_size}
use Rattle.flux_laws.specs.Hoisted.{locks_of}
use Rattle.flow_state.specs.declared.setups.Setup as code
use Rattle.flow_state.specs.States as state
use Rattle.flow_state.specs.States.{setup_by, MayRun}
use Rattle.flow_core.specs.States.{CoreState, setup_in, begun_by}
use Rattle.flux_runs.specs.declared.setups.Opened.{Opened}
use Rattle.flux_runs.specs.Setups.{setup_of}

-- items of a sound program: they have the values that their sources give, and are not too many
pub record CanRun (meaning : LibraryMeaning) (p : Program) (items : List Item) : Type 0 where
  pub kinds : ℕ → NodeKinds
  pub sound : IsSound meaning p kinds
  pub fit : AllByRecursion (IsItemFor p kinds) items
  pub few : length items ≤ 4096

-- the expanded sizes of their sources sum to 4,194,304 at most
pub record AreSmall (meaning : LibraryMeaning) (p : Program) (items : List Item) : Type 0 where
  pub total : sum_by (λ item. item_size (setup_of p (locks_of p) items meaning) (Some item)) items ≤ 4194304

-- the flows may run in it: it is of the program with its locks, the items, the library and empty cells
pub record IsSetUp {L : Type 0} (meaning : L → LibraryMeaning) (library : L) (p : Program) (items : List Item)
    (setup : code.Setup L) : Type 0 where
  pub program_ : arc_value setup.program ≡ p
  pub may : MayRun (meaning (arc_value setup.library)) (arc_value setup.program) (arc_value setup.plans) setup.items
  pub is : setup_by meaning (state.setup_of setup) ≡ setup_of p (locks_of p) items (meaning library)

-- a core of the same, whose flows have done nothing, and its program
pub record IsOpened {L : Type 0} (meaning : L → LibraryMeaning) (library : L) (p : Program) (items : List Item)
    (opened : Opened L) : Type 0 where
  pub program_ : arc_value opened.program ≡ p
  pub none : let core : CoreState L = opened.core in core.entries ≡ []
  pub idle : (flow : ℕ) → begun_by opened.core flow ≡ None
  pub is : setup_in meaning opened.core ≡ setup_of p (locks_of p) items (meaning library)
