-- Steps of the search for the entry that goes.
use Rattle.std.specs.Prelude.{◌≡◌, ℕ, true, false, List, [], ◌∷◌, ◌++◌, Option, Some, None, int_le}
use Rattle.std.specs.List.{AllByRecursion}
use Rattle.std.specs.Borrow.{Bor}
use Rattle.flux_values.specs.Cells.{CellMap}
use Rattle.nodes_cache.specs.Entries.{uses_of}

-- of names the first one that has the least uses: those before it have more, and those after it no fewer
pub record IsFirstLeast (cell : CellMap) (names : List (List ℕ)) (name : List ℕ) : Type 0 where
  pub before : List (List ℕ)
  pub after : List (List ℕ)
  pub are : names ≡ before ++ name ∷ after
  pub fewer : AllByRecursion (λ other. int_le (uses_of cell other) (uses_of cell name) ≡ false) before
  pub least : AllByRecursion (λ other. int_le (uses_of cell name) (uses_of cell other) ≡ true) after

-- what is found of names
abbrev pub IsFound : CellMap → List (List ℕ) → Option (Bor (List ℕ)) → Type 0
IsFound cell names (Some name) = IsFirstLeast cell names name.now
IsFound cell names None = names ≡ []
