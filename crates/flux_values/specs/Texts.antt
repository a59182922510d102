-- The one printed spelling of each value.
use Rattle.std.specs.Prelude.{ℕ, ◌+◌, ◌/◌, ◌%◌, ◌&&◌, nat_lt, nat_le, ◌==◌, if◌then◌else◌, true, false, List, [], ◌∷◌, ◌++◌, codes}
use Rattle.std.specs.List.{flat_map}
use Rattle.std.specs.Fmt.{signed_decimal}
use Rattle.flux_values.specs.declared.values.Value.{Value}
use Rattle.flux_values.specs.declared.values.Value.TheVariants.{Int, Bool, Text}

-- a number below 16 as a lower-case hexadecimal digit
abbrev pub hex_digit : ℕ → ℕ
hex_digit n = if nat_lt n 10 then 48 + n else 87 + n

-- how a byte is spelled inside a printed text: `\"`, `\\`, `\n`, `\r`, `\t`, itself from 32 to 126, or
-- `\x` and two digits
unfoldable pub printed_byte : ℕ → List ℕ
printed_byte b =
    if b == 34 then codes "\\\"" else
    if b == 92 then codes "\\\\" else
    if b == 10 then codes "\\n" else
    if b == 13 then codes "\\r" else
    if b == 9 then codes "\\t" else
    if nat_le 32 b && nat_le b 126 then b ∷ [] else
    92 ∷ 120 ∷ hex_digit (b / 16) ∷ hex_digit (b % 16) ∷ []

-- a text in quotes
abbrev pub printed_text : List ℕ → List ℕ
printed_text bytes = 34 ∷ flat_map printed_byte bytes ++ 34 ∷ []

-- `true` or `false`
abbrev pub printed_bool : Rattle.std.specs.Prelude.Bool → List ℕ
printed_bool true = codes "true"
printed_bool false = codes "false"

-- the printed spelling of a value
abbrev pub printed_value : Value → List ℕ
printed_value (Int number) = signed_decimal number
printed_value (Bool truth) = printed_bool truth
printed_value (Text bytes) = printed_text bytes
