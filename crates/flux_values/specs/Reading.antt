-- The printed spelling of a value at the front of bytes.
use Rattle.std.specs.Prelude.{◌≡◌, ℕ, ◌<◌, ◌≤◌, false, List, [], ◌∷◌, ◌++◌, length, Result, Ok, Err, All, FitsSigned, ⊤}
use Rattle.std.specs.Int.{w64}
use Rattle.std.specs.Char.{is_ascii_digit}
use Rattle.flux_values.specs.declared.failures.ValueFault.{ValueFault}
use Rattle.flux_values.specs.declared.failures.ValueFault.TheVariants as faults
use Rattle.flux_values.specs.declared.texts.TheConstants.{TEXT_LIMIT}
use Rattle.flux_values.specs.declared.values.Value.{Value}
use Rattle.flux_values.specs.declared.values.Value.TheVariants as values
use Rattle.flux_values.specs.Texts.{printed_value}

-- the bytes don't begin with a digit
abbrev pub NoDigitFirst : List ℕ → Type 0
NoDigitFirst [] = ⊤
NoDigitFirst (b ∷ bytes) = is_ascii_digit b ≡ false

-- what may follow a value's spelling: anything but a digit after an Int
abbrev pub EndsBefore : Value → List ℕ → Type 0
EndsBefore (values.Int number) rest = NoDigitFirst rest
EndsBefore (values.Bool truth) rest = ⊤
EndsBefore (values.Text bytes) rest = ⊤

-- a value that a program can hold: an Int of 64 bits, a text of at most 65,536 bytes
abbrev pub IsValue : Value → Type 0
IsValue (values.Int number) = FitsSigned w64 number
IsValue (values.Bool truth) = ⊤
IsValue (values.Text bytes) = All (λ b. b < 256) bytes × (length bytes ≤ TEXT_LIMIT)

-- a value's printed spelling begins the bytes
pub record BeginsWith (value : Value) (bytes : List ℕ) : Type 0 where
  pub is_value : IsValue value
  pub rest : List ℕ
  pub spelled : bytes ≡ printed_value value ++ rest
  pub ends : EndsBefore value rest

-- this value was read with the length of its printed spelling, or memory was short
abbrev pub ReadsBack : Result (Value × ℕ) ValueFault → Value → Type 0
ReadsBack (Ok read) value = read ≡ (value, length (printed_value value))
ReadsBack (Err faults.Memory) value = ⊤
ReadsBack (Err (faults.BadValue at)) value = ⊥
ReadsBack (Err (faults.TooLong at)) value = ⊥
