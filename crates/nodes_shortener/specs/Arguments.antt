-- What a node reads of its arguments.
use Rattle.std.specs.Prelude.{ℕ, ◌^◌, nat_lt, ℤ, pos, negsuc, List, [], ◌∷◌}
use Rattle.flux_values.specs.declared.values.Value.{Value}
use Rattle.flux_values.specs.declared.values.Value.TheVariants.{Int, Text}

-- the number that comes first; of no meaning for other values
abbrev pub first_number : List Value → ℤ
first_number (Int number ∷ values) = number
first_number values = pos 0

-- the number that comes second; of no meaning for other values
abbrev pub second_number : List Value → ℤ
second_number (value ∷ Int number ∷ values) = number
second_number values = pos 0

-- the text that comes first; of no meaning for other values
abbrev pub first_text : List Value → List ℕ
first_text (Text text ∷ values) = text
first_text values = []

-- the text that comes second; of no meaning for other values
abbrev pub second_text : List Value → List ℕ
second_text (value ∷ Text text ∷ values) = text
second_text values = []

-- a number is one of 64 bits
abbrev pub fits : ℤ → Rattle.std.specs.Prelude.Bool
fits (pos n) = nat_lt n (2 ^ 63)
fits (negsuc n) = nat_lt n (2 ^ 63)
