-- Sessions by number.
use Rattle.std.specs.Prelude.{ℕ, ◌+◌, ◌-◌, ◌^◌, ℤ, pos, negsuc, List, ◌∷◌}
use Rattle.flux_values.specs.declared.values.Value.{Value}
use Rattle.flux_values.specs.declared.values.Value.TheVariants.{Int}

-- a number as u64: 2^64 is added to a negative one
abbrev pub as_u64 : ℤ → ℕ
as_u64 (pos n) = n
as_u64 (negsuc n) = 2 ^ 64 - (n + 1)

-- the session of values that begin with a number; of no meaning for other values
abbrev pub first_as_u64 : List Value → ℕ
first_as_u64 (Int number ∷ values) = as_u64 number
first_as_u64 values = 0
