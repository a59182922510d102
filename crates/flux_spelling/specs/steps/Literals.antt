-- Steps of the reader: what it has read of a text in quotes, of at most so many bytes.
use Rattle.std.specs.Prelude.{◌≡◌, ◌≢◌, ◌⊎◌, ℕ, ◌+◌, ◌<◌, ◌≤◌, List, ◌∷◌, length, take, drop, slice_index, All, Result, Ok, Err, Vec, ⊤}
use Rattle.flux_values.specs.declared.failures.ValueFault.{ValueFault}
use Rattle.flux_values.specs.declared.failures.ValueFault.TheVariants as faults
use Rattle.flux_spelling.specs.declared.reading.Piece.TheVariants.{Stops}
use Rattle.flux_values.specs.Spellings.{OpensText}
use Rattle.flux_spelling.specs.steps.Pieces.{piece_of}

-- before this place are an opening quote and pieces that give the text
pub record IsOpen (bytes : List ℕ) (limit : ℕ) (text : List ℕ) (at : ℕ) : Type 0 where
  pub within : at ≤ length bytes
  pub opens : OpensText (take at bytes) text
  pub each : All (λ b. b < 256) text
  pub few : length text ≤ limit

-- the closing quote is at the end of so many bytes
pub record IsClosed (bytes : List ℕ) (limit : ℕ) (text : List ℕ) (n : ℕ) : Type 0 where
  pub at : ℕ
  pub open_ : IsOpen bytes limit text at
  pub long : n ≡ at + 1
  pub within : at < length bytes
  pub quote : slice_index bytes at ≡ 34

-- the text is full, and no closing quote is here
pub record IsFull (bytes : List ℕ) (limit at : ℕ) : Type 0 where
  pub text : List ℕ
  pub open_ : IsOpen bytes limit text at
  pub full : length text ≡ limit
  pub within : at < length bytes
  pub other : slice_index bytes at ≢ 34

-- no piece goes on from a place past so many bytes, though there is room
pub record IsStopped (bytes : List ℕ) (limit : ℕ) (text : List ℕ) (at after : ℕ) : Type 0 where
  pub room : length text < limit
  pub other : (rest : List ℕ) → drop at bytes ≡ 34 ∷ rest → ⊥
  pub stops : piece_of (drop at bytes) ≡ Stops after

-- no piece goes on, or the bytes end
pub record IsStuck (bytes : List ℕ) (limit place : ℕ) : Type 0 where
  pub text : List ℕ
  pub at : ℕ
  pub after : ℕ
  pub open_ : IsOpen bytes limit text at
  pub is : place ≡ at + after
  pub stuck : IsStopped bytes limit text at after ⊎ ((at ≡ length bytes) × (after ≡ 0))

abbrev pub IsLiteralFault : List ℕ → ℕ → ValueFault → Type 0
IsLiteralFault bytes limit (faults.TooLong at) = IsFull bytes limit at
IsLiteralFault bytes limit (faults.BadValue at) = IsStuck bytes limit at
IsLiteralFault bytes limit faults.Memory = ⊤

abbrev pub IsLiteralRead : {A : Type 0} → List ℕ → ℕ → Result (Vec ℕ A × ℕ) ValueFault → Type 0
IsLiteralRead bytes limit (Ok read) = IsClosed bytes limit (read.0.items) read.1
IsLiteralRead bytes limit (Err fault) = IsLiteralFault bytes limit fault
