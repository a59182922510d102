-- What a node reads of its one cell.
use Rattle.std.specs.Prelude.{ℕ, nat_lt, nat_le, ◌&&◌, if◌then◌else◌, ℤ, pos, List, [], ◌∷◌, length, Option, Some, None}
use Rattle.std.specs.List.{list_all}
use Rattle.std.specs.FinMap.{get}
use Rattle.flux_values.specs.Cells.{CellMap}
use Rattle.flux_values.specs.declared.texts.TheConstants.{TEXT_LIMIT}
use Rattle.flux_values.specs.declared.values.Value.{Value}
use Rattle.flux_values.specs.declared.values.Value.TheVariants.{Int, Bool, Text}
use Rattle.nodes_shortener.specs.Arguments.{fits}

-- a name that is absent or of another kind reads as 0
abbrev pub number_or_zero : Option Value → ℤ
number_or_zero (Some (Int number)) = if fits number then number else pos 0
number_or_zero (Some (Bool truth)) = pos 0
number_or_zero (Some (Text text)) = pos 0
number_or_zero None = pos 0

-- the number under a name of the one cell
abbrev pub number_under : List CellMap → List ℕ → ℤ
number_under (cell ∷ []) name = number_or_zero (get cell name)
number_under [] name = pos 0
number_under (cell ∷ next ∷ cells) name = pos 0

-- a text has at most 65,536 bytes
abbrev pub is_text : List ℕ → Rattle.std.specs.Prelude.Bool
is_text text = nat_le (length text) TEXT_LIMIT && list_all (λ byte. nat_lt byte 256) text

-- a name that is absent or of another kind has no text
abbrev pub text_of : Option Value → Option (List ℕ)
text_of (Some (Text text)) = if is_text text then Some text else None
text_of (Some (Int number)) = None
text_of (Some (Bool truth)) = None
text_of None = None

-- the text under a name of the one cell
abbrev pub text_under : List CellMap → List ℕ → Option (List ℕ)
text_under (cell ∷ []) name = text_of (get cell name)
text_under [] name = None
text_under (cell ∷ next ∷ cells) name = None
