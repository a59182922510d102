-- The entries of the cell `cache`.
use Rattle.std.specs.Prelude.{ℕ, ◌+ℤ◌, ◌-◌, ◌^◌, ◌==◌, ◌&&◌, nat_lt, nat_le, if◌then◌else◌, Bool, true, false, ℤ, pos, negsuc, int_le, List, [], ◌∷◌, ◌++◌, length, take, drop, filter, find, Option, Some, None, is_some, codes}
use Rattle.std.specs.List.{list_all, filter_map}
use Rattle.std.specs.Int.{int_min}
use Rattle.std.specs.Str.{bytes_eq}
use Rattle.std.specs.FinMap.{get, keys}
use Rattle.flux_values.specs.Cells.{CellMap}
use Rattle.flux_values.specs.declared.texts.TheConstants.{TEXT_LIMIT}
use Rattle.flux_values.specs.declared.values.Value.{Value}
use Rattle.flux_values.specs.declared.values.Value.TheVariants as values
use Rattle.nodes_cache.specs.declared.entries.TheConstants.{NAME_LIMIT}

-- ---- what the cell holds

-- a number that is absent or of another kind reads as 0
abbrev pub number_or_zero : Option Value → ℤ
number_or_zero (Some (values.Int number)) = number
number_or_zero (Some (values.Bool truth)) = pos 0
number_or_zero (Some (values.Text text)) = pos 0
number_or_zero None = pos 0

-- at most 65,536 bytes
abbrev pub fits : List ℕ → Bool
fits text = nat_le (length text) TEXT_LIMIT && list_all (λ byte. nat_lt byte 256) text

-- a text that is absent or of another kind reads as the empty one; so does one that no program can hold
abbrev pub text_or_empty : Option Value → List ℕ
text_or_empty (Some (values.Text text)) = if fits text then text else []
text_or_empty (Some (values.Int number)) = []
text_or_empty (Some (values.Bool truth)) = []
text_or_empty None = []

-- ---- one entry

-- under which names of the cell a name has its body, its uses and its users
abbrev pub body_name : List ℕ → List ℕ
body_name name = codes "b:" ++ name

abbrev pub uses_name : List ℕ → List ℕ
uses_name name = codes "n:" ++ name

abbrev pub users_name : List ℕ → List ℕ
users_name name = codes "u:" ++ name

-- a name of at most 1,024 bytes has an entry where the cell has its body
abbrev pub has_entry : CellMap → List ℕ → Bool
has_entry cell name = nat_le (length name) NAME_LIMIT && is_some (get cell (body_name name))

abbrev pub body_of : CellMap → List ℕ → List ℕ
body_of cell name = text_or_empty (get cell (body_name name))

abbrev pub uses_of : CellMap → List ℕ → ℤ
uses_of cell name = number_or_zero (get cell (uses_name name))

abbrev pub users_of : CellMap → List ℕ → ℤ
users_of cell name = number_or_zero (get cell (users_name name))

-- one more, up to the greatest i64
abbrev pub one_more : ℤ → ℤ
one_more number = int_min (number +ℤ pos 1) (pos (2 ^ 63 - 1))

-- ---- all entries

-- the name that has its body under this name of the cell
abbrev pub entry_name : List ℕ → Option (List ℕ)
entry_name key =
    if bytes_eq (take 2 key) (codes "b:") && nat_le (length (drop 2 key)) NAME_LIMIT
    then Some (drop 2 key) else None

-- the names that have an entry, in bytewise order
abbrev pub entries : CellMap → List (List ℕ)
entries cell = filter_map entry_name (keys cell)

-- a number is 0
abbrev pub is_zero : ℤ → Bool
is_zero (pos n) = n == 0
is_zero (negsuc n) = false

-- those without users
abbrev pub free_entries : CellMap → List (List ℕ)
free_entries cell = filter (λ name. is_zero (users_of cell name)) (entries cell)

-- a name has no more uses than all of these
abbrev pub is_least_used : CellMap → List (List ℕ) → List ℕ → Bool
is_least_used cell names name =
    list_all (λ other. int_le (uses_of cell name) (uses_of cell other)) names

-- the one that goes: of those without users the one with the least uses, the first in bytewise order
abbrev pub leaving : CellMap → Option (List ℕ)
leaving cell = find (is_least_used cell (free_entries cell)) (free_entries cell)
