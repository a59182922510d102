-- The values of `--processors` and `--costs`.
use Rattle.std.specs.Prelude.{◌≡◌, ℕ, ◌≤◌, List, [], ◌∷◌, length, ⊤}
use Rattle.std.specs.List.{slice_split}
use Rattle.flux_cli.specs.declared.costs.TheConstants.{PROCESSOR_LIMIT, COST_LIMIT, COSTS_LIMIT}
use Rattle.flux_cli.specs.Values.{is_comma, SpellsNumber}

-- the number of processors of `--processors`, once, from 1 to 64
abbrev pub IsProcessors : List (List ℕ) → ℕ → Type 0
IsProcessors [] processors = ⊥
IsProcessors (value ∷ []) processors = SpellsNumber 1 PROCESSOR_LIMIT value processors
IsProcessors (value ∷ other ∷ values) processors = ⊥

-- pieces spell costs, one each, from 1 to 1,000
abbrev pub SpellEachCost : List (List ℕ) → List ℕ → Type 0
SpellEachCost [] [] = ⊤
SpellEachCost [] (cost ∷ costs) = ⊥
SpellEachCost (digits ∷ pieces) [] = ⊥
SpellEachCost (digits ∷ pieces) (cost ∷ costs) = SpellsNumber 1 COST_LIMIT digits cost × SpellEachCost pieces costs

-- 1 to 4,096 costs with commas between them
pub record SpellsCosts (list : List ℕ) (costs : List ℕ) : Type 0 where
  pub each : SpellEachCost (slice_split is_comma list) costs
  pub few : length costs ≤ COSTS_LIMIT

-- the costs of `--costs`, at most once; none where it isn't given
abbrev pub AreCosts : List (List ℕ) → List ℕ → Type 0
AreCosts [] costs = costs ≡ []
AreCosts (value ∷ []) costs = SpellsCosts value costs
AreCosts (value ∷ other ∷ values) costs = ⊥
