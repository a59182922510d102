-- What can be simulated.
use Rattle.std.specs.Prelude.{◌≡◌, ℕ, ◌≤◌, List, [], Some, None}
use Rattle.std.specs.List.{sum_by}
use Rattle.flux_values.specs.Meanings.{LibraryMeaning}
use Rattle.flux_model.specs.declared.programs.Program.{Program}
use Rattle.flux_model.specs.declared.items.Item.{Item}
use Rattle.flux_laws.specs.Growth.{item_size}
use Rattle.flow_core.specs.States.{CoreState, setup_in, begun_by}
use Rattle.flow_orders.specs.Costs.{AreCosts}

-- a core of these items, whose flows have done nothing
pub record IsOpened {L : Type 0} (program : Program) (items : List Item) (core : CoreState L) : Type 0 where
  pub none : core.entries ≡ []
  pub idle : (flow : ℕ) → begun_by core flow ≡ None
  pub program_ : (let setup = core.setup in setup.program) ≡ program
  pub items_ : (let setup = core.setup in setup.items) ≡ items

-- a core whose flows have done nothing and are small enough, with a cost for each node
pub record CanSimulate {L : Type 0} (meaning : L → LibraryMeaning) (core : CoreState L) (costs : List ℕ) : Type 0 where
  pub none : core.entries ≡ []
  pub idle : (flow : ℕ) → begun_by core flow ≡ None
  pub costs_ : AreCosts (let setup = core.setup in setup.program) costs
  pub sizes : sum_by (λ item. item_size (setup_in meaning core) (Some item)) (let setup = core.setup in setup.items)
      ≤ 4194304
