-- Numbers of 64 bits, and the bytes that spell one.
use Rattle.std.specs.Prelude.{ℕ, ◌^◌, nat_lt, ◌==◌, ◌&&◌, if◌then◌else◌, Bool, true, false, ℤ, pos, negsuc, List, [], ◌∷◌, drop, slice_index, Option, Some, None}
use Rattle.std.specs.List.{list_all}
use Rattle.std.specs.Char.{is_ascii_digit}
use Rattle.std.specs.Str.Parse.{digits_value}
use Rattle.flux_values.specs.Spellings.{with_sign}
use Rattle.flux_values.specs.declared.values.Value.{Value}
use Rattle.flux_values.specs.declared.values.Value.TheVariants as values

-- a number is in i64
abbrev pub fits : ℤ → Bool
fits (pos n) = nat_lt n (2 ^ 63)
fits (negsuc n) = nat_lt n (2 ^ 63)

-- a number is 0
abbrev pub is_zero : ℤ → Bool
is_zero (pos n) = n == 0
is_zero (negsuc n) = false

-- a number is below 0
abbrev pub is_below_zero : ℤ → Bool
is_below_zero (pos n) = false
is_below_zero (negsuc n) = true

-- ---- spellings

-- one digit or more
abbrev pub is_numeral : List ℕ → Bool
is_numeral [] = false
is_numeral (digit ∷ digits) = list_all is_ascii_digit (digit ∷ digits)

-- a number in i64, where its digits are some
abbrev pub signed_int : Bool → List ℕ → Option ℤ
signed_int negative digits =
    if is_numeral digits && fits (with_sign negative (digits_value 10 digits))
    then Some (with_sign negative (digits_value 10 digits)) else None

-- the number that all the bytes spell: digits after a minus sign, or digits alone
abbrev pub int_spelled : List ℕ → Option ℤ
int_spelled bytes =
    if slice_index bytes 0 == 45 then signed_int true (drop 1 bytes) else signed_int false bytes

-- the number of a value, if it is one
abbrev pub number_of : Value → Option ℤ
number_of (values.Int number) = Some number
number_of (values.Bool truth) = None
number_of (values.Text text) = None
