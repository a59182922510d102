-- Steps of the reader: what it has read of a number.
use Rattle.std.specs.Prelude.{◌≡◌, ◌⊎◌, ℕ, ◌+◌, ◌-◌, ◌^◌, ◌<◌, ◌≤◌, Bool, true, false, List, ◌∷◌, length, take, drop, Result, Ok, Err}
use Rattle.std.specs.Str.Parse.{IsNumeral, AllDigits, digits_value}
use Rattle.flux_values.specs.Reading.{NoDigitFirst}

-- the greatest magnitude of a number of 64 bits
abbrev pub limit_of : Bool → ℕ
limit_of true = 2 ^ 63
limit_of false = 2 ^ 63 - 1

-- a minus sign first, or a digit
abbrev pub IsSigned : Bool → List ℕ → Type 0
IsSigned true bytes = bytes ≡ 45 ∷ drop 1 bytes
IsSigned false bytes = NoDigitFirst bytes → ⊥

-- the digits at the front, and the number that they spell
pub record AreDigits (bytes : List ℕ) (limit number n : ℕ) : Type 0 where
  pub within : n ≤ length bytes
  pub numeral : IsNumeral 10 (take n bytes)
  pub value : number ≡ digits_value 10 (take n bytes)
  pub small : number ≤ limit
  pub ends : NoDigitFirst (drop n bytes)

-- the digits up to and with this place, but for the last of them, spell a number up to the limit
pub record AreTooMany (bytes : List ℕ) (limit at : ℕ) : Type 0 where
  pub some : 0 < at
  pub within : at < length bytes
  pub digits : AllDigits 10 (take (at + 1) bytes)
  pub small : digits_value 10 (take at bytes) ≤ limit
  pub great : limit < digits_value 10 (take (at + 1) bytes)

abbrev pub AreDigitsRead : Result (ℕ × ℕ) ℕ → List ℕ → ℕ → Type 0
AreDigitsRead (Ok read) bytes limit = AreDigits bytes limit read.0 read.1
AreDigitsRead (Err at) bytes limit = ((at ≡ 0) × NoDigitFirst bytes) ⊎ AreTooMany bytes limit at
