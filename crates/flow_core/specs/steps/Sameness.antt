-- How far two cells are the same. No promise cites it.
use Rattle.std.specs.Prelude.{◌≡◌, ◌<◌, ℕ, List, Some}
use Rattle.std.specs.List.{slice_get}
use Rattle.std.specs.FinMap.{keys, get}
use Rattle.flux_values.specs.Cells.{CellMap}

-- two cells have the same name at a place, with the same value
pub record IsSameAt (a b : CellMap) (place : ℕ) : Type 0 where
  pub names : slice_get (keys a) place ≡ slice_get (keys b) place
  pub values_ : (name : List ℕ) → slice_get (keys a) place ≡ Some name → get a name ≡ get b name

abbrev pub AreSameBelow : CellMap → CellMap → ℕ → Type 0
AreSameBelow a b place = (k : ℕ) → k < place → IsSameAt a b k
