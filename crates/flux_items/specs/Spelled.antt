-- Which lines spell an item: pieces with blanks between them.
use Rattle.std.specs.Prelude.{◌≡◌, ℕ, List, [], ◌∷◌, ◌++◌, codes, ⊤}
use Rattle.flux_values.specs.declared.values.Value.{Value}
use Rattle.flux_values.specs.Identifiers.{IsIdentifier}
use Rattle.flux_values.specs.Spellings.{Spells}
use Rattle.flux_items.specs.Lines.{AreBlanks}

-- pieces in order, with blanks or none before, between and after them
abbrev pub AreLaid : List (List ℕ) → List ℕ → Type 0
AreLaid [] bytes = AreBlanks bytes
AreLaid (piece ∷ pieces) bytes = (blanks : List ℕ) × (rest : List ℕ)
    × AreBlanks blanks × (bytes ≡ blanks ++ (piece ++ rest)) × AreLaid pieces rest

-- pieces with a comma between each two
abbrev pub with_commas : List (List ℕ) → List (List ℕ)
with_commas [] = []
with_commas (piece ∷ []) = piece ∷ []
with_commas (piece ∷ next ∷ pieces) = piece ∷ codes "," ∷ with_commas (next ∷ pieces)

-- what follows `(`: spellings with commas between them, and `)`
abbrev pub closed_pieces : List (List ℕ) → List (List ℕ)
closed_pieces spellings = with_commas spellings ++ codes ")" ∷ []

-- a name, `(`, spellings with commas between them, and `)`
abbrev pub item_pieces : List ℕ → List (List ℕ) → List (List ℕ)
item_pieces name spellings = name ∷ codes "(" ∷ closed_pieces spellings

-- spellings, one for each value
abbrev pub SpellEach : List (List ℕ) → List Value → Type 0
SpellEach [] [] = ⊤
SpellEach [] (value ∷ values) = ⊥
SpellEach (spelling ∷ spellings) [] = ⊥
SpellEach (spelling ∷ spellings) (value ∷ values) = Spells spelling value × SpellEach spellings values

-- a line spells a name and values
pub record SpellsItem (line name : List ℕ) (values : List Value) : Type 0 where
  pub identifier : IsIdentifier name
  pub spellings : List (List ℕ)
  pub each : SpellEach spellings values
  pub laid : AreLaid (item_pieces name spellings) line
