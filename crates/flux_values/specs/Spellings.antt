-- Which bytes spell which value, what begins a spelling, and where each answer of a reader comes.
use Rattle.std.specs.Prelude.{◌≡◌, ◌≢◌, ℕ, ◌+◌, ◌*◌, ◌<◌, ◌≤◌, ◌==◌, if◌then◌else◌, Bool, true, false, ℤ, pos, neg_ℤ, List, [], ◌∷◌, ◌++◌, length, take, slice_index, All, Option, Some, None, Result, Ok, Err, ⊤}
use Rattle.std.specs.List.{concat}
use Rattle.std.specs.Char.{digit_value}
use Rattle.std.specs.Fmt.{decimal}
use Rattle.std.specs.Str.Parse.{IsNumeral, digits_value}
use Rattle.flux_values.specs.declared.failures.ValueFault.{ValueFault}
use Rattle.flux_values.specs.declared.failures.ValueFault.TheVariants as faults
use Rattle.flux_values.specs.declared.texts.TheConstants.{TEXT_LIMIT}
use Rattle.flux_values.specs.declared.values.Value.{Value}
use Rattle.flux_values.specs.declared.values.Value.TheVariants as values
use Rattle.flux_values.specs.Texts.{printed_bool}
use Rattle.flux_values.specs.Reading.{IsValue, EndsBefore, NoDigitFirst}

-- ---- spellings

-- a negative number's sign
abbrev pub minus : Bool → List ℕ
minus true = 45 ∷ []
minus false = []

-- a number by its sign and its magnitude
abbrev pub with_sign : Bool → ℕ → ℤ
with_sign true magnitude = neg_ℤ (pos magnitude)
with_sign false magnitude = pos magnitude

-- one digit or more, after a minus sign or none, spell a number; leading zeros are welcome
pub record SpellsInt (bytes : List ℕ) (number : ℤ) : Type 0 where
  pub negative : Bool
  pub digits : List ℕ
  pub numeral : IsNumeral 10 digits
  pub laid : bytes ≡ minus negative ++ digits
  pub value : number ≡ with_sign negative (digits_value 10 digits)

-- what a letter after a `\` means: `"`, `\`, LF, CR or TAB
abbrev pub escaped : ℕ → Option ℕ
escaped letter =
    if letter == 34 then Some 34 else
    if letter == 92 then Some 92 else
    if letter == 110 then Some 10 else
    if letter == 114 then Some 13 else
    if letter == 116 then Some 9 else None

-- a piece spells one byte of a text: a byte other than `"`, `\` and LF itself, `\` and a letter,
-- or `\x` and two hexadecimal digits in either case
abbrev pub SpellsByte : List ℕ → ℕ → Type 0
SpellsByte (raw ∷ []) byte = (raw ≡ byte) × (raw ≢ 34) × (raw ≢ 92) × (raw ≢ 10)
SpellsByte (mark ∷ letter ∷ []) byte = (mark ≡ 92) × (escaped letter ≡ Some byte)
SpellsByte (mark ∷ letter ∷ high ∷ low ∷ []) byte =
    (mark ≡ 92) × (letter ≡ 120) × (digit_value high < 16) × (digit_value low < 16)
    × (byte ≡ 16 * digit_value high + digit_value low)
SpellsByte piece byte = ⊥

-- pieces, one for each byte of a text
abbrev pub SpellEach : List (List ℕ) → List ℕ → Type 0
SpellEach [] [] = ⊤
SpellEach [] (byte ∷ text) = ⊥
SpellEach (piece ∷ pieces) [] = ⊥
SpellEach (piece ∷ pieces) (byte ∷ text) = SpellsByte piece byte × SpellEach pieces text

-- a text's spelling without its closing quote: an opening quote, and pieces that give the text
pub record OpensText (bytes text : List ℕ) : Type 0 where
  pub pieces : List (List ℕ)
  pub laid : bytes ≡ 34 ∷ concat pieces
  pub each : SpellEach pieces text

-- the same with it
pub record SpellsText (bytes text : List ℕ) : Type 0 where
  pub opened : List ℕ
  pub opens : OpensText opened text
  pub closed : bytes ≡ opened ++ 34 ∷ []

-- what bytes have to be to spell a value
abbrev pub HasForm : List ℕ → Value → Type 0
HasForm bytes (values.Int number) = SpellsInt bytes number
HasForm bytes (values.Bool truth) = bytes ≡ printed_bool truth
HasForm bytes (values.Text text) = SpellsText bytes text

-- bytes spell a value that a program can hold
pub record Spells (bytes : List ℕ) (value : Value) : Type 0 where
  pub is_value : IsValue value
  pub form : HasForm bytes value

-- ---- what is at the front of bytes

-- a spelling of this value, so many bytes long, begins the bytes; after an Int's there is no digit
pub record BeginsSpelled (bytes : List ℕ) (value : Value) (n : ℕ) : Type 0 where
  pub spelling : List ℕ
  pub rest : List ℕ
  pub spells : Spells spelling value
  pub ends : EndsBefore value rest
  pub front : bytes ≡ spelling ++ rest
  pub long : n ≡ length spelling

-- the longest spelling that begins the bytes is this value's, and so many bytes long
pub record IsLongest (bytes : List ℕ) (value : Value) (n : ℕ) : Type 0 where
  pub begins : BeginsSpelled bytes value n
  pub longest : (other : Value) (m : ℕ) → BeginsSpelled bytes other m → m ≤ n

-- some spelling begins with these bytes
pub record CanGoOn (bytes : List ℕ) : Type 0 where
  pub more : List ℕ
  pub value : Value
  pub spells : Spells (bytes ++ more) value

-- before this place a text's spelling has given its 65,536 bytes, and at it is neither the
-- closing quote nor the end of the bytes
pub record IsTooLong (bytes : List ℕ) (at : ℕ) : Type 0 where
  pub text : List ℕ
  pub opens : OpensText (take at bytes) text
  pub full : length text ≡ TEXT_LIMIT
  pub within : at < length bytes
  pub other : slice_index bytes at ≢ 34

-- decimal digits without a leading zero, so many of them, begin the bytes, and no digit follows; the
-- number is at most the limit
pub record BeginsDecimal (bytes : List ℕ) (limit number n : ℕ) : Type 0 where
  pub rest : List ℕ
  pub small : number ≤ limit
  pub front : bytes ≡ decimal number ++ rest
  pub ends : NoDigitFirst rest
  pub long : n ≡ length (decimal number)

-- a spelling of this text of at most so many bytes begins the bytes, itself so many bytes long
pub record BeginsText (bytes text : List ℕ) (limit n : ℕ) : Type 0 where
  pub spelling : List ℕ
  pub rest : List ℕ
  pub each : All (λ b. b < 256) text
  pub few : length text ≤ limit
  pub spells : SpellsText spelling text
  pub front : bytes ≡ spelling ++ rest
  pub long : n ≡ length spelling

-- no spelling begins the bytes and no text is too long; some spelling begins with the bytes before
-- this place, and none with those up to and with it, unless the bytes end there
pub record IsBadValue (bytes : List ℕ) (at : ℕ) : Type 0 where
  pub no_value : (value : Value) (n : ℕ) → BeginsSpelled bytes value n → ⊥
  pub no_text : (place : ℕ) → IsTooLong bytes place → ⊥
  pub within : at ≤ length bytes
  pub before : CanGoOn (take at bytes)
  pub after : at < length bytes → CanGoOn (take (at + 1) bytes) → ⊥

-- ---- answers

-- an answer has its cause
abbrev pub HasCause : Result (Value × ℕ) ValueFault → List ℕ → Type 0
HasCause (Ok read) bytes = IsLongest bytes read.0 read.1
HasCause (Err (faults.TooLong at)) bytes = IsTooLong bytes at
HasCause (Err (faults.BadValue at)) bytes = IsBadValue bytes at
HasCause (Err faults.Memory) bytes = ⊤

-- what is read of a number of at most so much: it, with its digits' number, or that there is none
abbrev pub IsDecimalRead : List ℕ → ℕ → Option (ℕ × ℕ) → Type 0
IsDecimalRead bytes limit (Some read) = BeginsDecimal bytes limit read.0 read.1
IsDecimalRead bytes limit None = (number n : ℕ) → BeginsDecimal bytes limit number n → ⊥

-- what is read of a text of at most so many bytes: it, with its spelling's length, or that there is none
abbrev pub IsTextRead : List ℕ → ℕ → Option (List ℕ × ℕ) → Type 0
IsTextRead bytes limit (Some read) = BeginsText bytes read.0 limit read.1
IsTextRead bytes limit None = (text : List ℕ) (n : ℕ) → BeginsText bytes text limit n → ⊥
