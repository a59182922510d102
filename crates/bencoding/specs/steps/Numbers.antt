-- Steps of the reader: numbers within bounds.
use Rattle.std.specs.Prelude.{◌≡◌, ◌⊎◌, ℕ, ◌/◌, ◌^◌, ◌<◌, ◌≤◌, false, List, [], ◌∷◌, ◌++◌, length, take, drop, Option, Some, None, Result, Ok, Err}
use Rattle.std.specs.Char.{is_ascii_digit}
use Rattle.std.specs.Fmt.{decimal}
use Rattle.flux_values.specs.Reading.{NoDigitFirst}
use Rattle.bencoding.specs.steps.Places.{IsStuck}

-- some number within the bounds is this one with so many digits more
pub record Grows (number low high : ℕ) : Type 0 where
  pub turns : ℕ
  pub whole : ℕ
  pub least : low ≤ whole
  pub most : whole ≤ high
  pub front : whole / 10 ^ turns ≡ number

-- some number within the bounds begins with this one's digits
abbrev pub Starts : ℕ → ℕ → ℕ → Type 0
Starts number low high = ((number ≡ 0) × (low ≡ 0)) ⊎ ((0 < number) × Grows number low high)

abbrev pub IsGrown : ℕ → ℕ → ℕ → Option ℕ → Type 0
IsGrown next low high (Some number) = (number ≡ next) × Starts next low high
IsGrown next low high None = Starts next low high → ⊥

-- a number within the bounds, and a byte that ends it
pub record IsEnded (low high end : ℕ) (s : List ℕ) : Type 0 where
  pub number : ℕ
  pub least : low ≤ number
  pub most : number ≤ high
  pub spelled : s ≡ decimal number ++ end ∷ []

-- the digits at the front spell this number within the bounds
pub record AreDigits (low high : ℕ) (bytes : List ℕ) (number n : ℕ) : Type 0 where
  pub within : n ≤ length bytes
  pub least : low ≤ number
  pub most : number ≤ high
  pub spelled : take n bytes ≡ decimal number
  pub ends : NoDigitFirst (drop n bytes)

abbrev pub AreDigitsRead : ℕ → ℕ → List ℕ → Result (ℕ × ℕ) ℕ → Type 0
AreDigitsRead low high bytes (Ok read) = AreDigits low high bytes read.0 read.1
AreDigitsRead low high bytes (Err at) =
    (end : ℕ) → is_ascii_digit end ≡ false → IsStuck (IsEnded low high end) bytes at

-- the same with its end
pub record AreEnded (low high end : ℕ) (bytes : List ℕ) (number n : ℕ) : Type 0 where
  pub within : n ≤ length bytes
  pub least : low ≤ number
  pub most : number ≤ high
  pub spelled : take n bytes ≡ decimal number ++ end ∷ []

abbrev pub AreEndedRead : ℕ → ℕ → ℕ → List ℕ → Result (ℕ × ℕ) ℕ → Type 0
AreEndedRead low high end bytes (Ok read) = AreEnded low high end bytes read.0 read.1
AreEndedRead low high end bytes (Err at) = IsStuck (IsEnded low high end) bytes at
