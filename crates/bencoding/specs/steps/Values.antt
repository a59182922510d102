-- Steps of the reader: what it has read of values.
use Rattle.std.specs.Prelude.{◌≡◌, ℕ, ◌-◌, ◌^◌, ◌<◌, ◌≤◌, Bool, true, false, List, [], ◌∷◌, ◌++◌, length, take, slice_index, Option, Result, Ok, Err, ⊤}
use Rattle.std.specs.Borrow.{Bor}
use Rattle.bencoding.specs.Trees.{Tree, spelled_string, spelling, IsKey, IsTree}
use Rattle.bencoding.specs.Views.{tree_of}
use Rattle.bencoding.specs.declared.values.Field.{Field}
use Rattle.bencoding.specs.declared.values.Ben.{Ben}
use Rattle.bencoding.specs.declared.values.BenFault.{BenFault}
use Rattle.bencoding.specs.declared.values.BenFault.TheVariants as faults
use Rattle.bencoding.specs.declared.reading.First.{First}
use Rattle.bencoding.specs.declared.reading.First.TheVariants as firsts
use Rattle.bencoding.specs.steps.Places.{IsStuck}

-- ---- by the first byte

abbrev pub IsHead : List ℕ → ℕ → Type 0
IsHead bytes b = (0 < length bytes) × (slice_index bytes 0 ≡ b)

abbrev pub IsDigitHead : List ℕ → Type 0
IsDigitHead bytes = (0 < length bytes) × (48 ≤ slice_index bytes 0) × (slice_index bytes 0 < 58)

-- no value begins so
pub record IsNoHead (bytes : List ℕ) (depth : ℕ) : Type 0 where
  pub number : IsHead bytes 105 → ⊥
  pub string : IsDigitHead bytes → ⊥
  pub list : IsHead bytes 108 → 0 < depth → ⊥
  pub dictionary : IsHead bytes 100 → 0 < depth → ⊥

-- what the first byte begins
abbrev pub IsFirst : First → List ℕ → ℕ → Type 0
IsFirst firsts.Number bytes depth = IsHead bytes 105
IsFirst firsts.String bytes depth = IsDigitHead bytes
IsFirst firsts.Items bytes depth = IsHead bytes 108 × (0 < depth)
IsFirst firsts.Dict bytes depth = IsHead bytes 100 × (0 < depth)
IsFirst firsts.Nothing bytes depth = IsNoHead bytes depth

-- `i` and a minus sign or none
abbrev pub mark : Bool → List ℕ
mark true = 105 ∷ 45 ∷ []
mark false = 105 ∷ []

pub record IsMarked (negative : Bool) (bytes : List ℕ) : Type 0 where
  pub within : length (mark negative) ≤ length bytes
  pub front : take (length (mark negative)) bytes ≡ mark negative
  pub other : negative ≡ false → 1 < length bytes → slice_index bytes 1 ≡ 45 → ⊥

-- ---- values

-- the spellings of values with at most so many lists and dictionaries in one another
pub record IsSpelled (depth : ℕ) (s : List ℕ) : Type 0 where
  pub value : Tree
  pub is_tree : IsTree depth value
  pub spelled : s ≡ spelling value

-- a value's spelling, so many bytes long, begins the bytes
pub record StandsFirst (depth : ℕ) (bytes : List ℕ) (t : Tree) (n : ℕ) : Type 0 where
  pub within : n ≤ length bytes
  pub some : 0 < n
  pub is_tree : IsTree depth t
  pub spelled : take n bytes ≡ spelling t

abbrev pub IsValueRead : ℕ → List ℕ → Result (Ben × ℕ) BenFault → Type 0
IsValueRead depth bytes (Ok read) = StandsFirst depth bytes (tree_of read.0) read.1
IsValueRead depth bytes (Err (faults.BadBen at)) = IsStuck (IsSpelled depth) bytes at
IsValueRead depth bytes (Err faults.Memory) = ⊤

-- ---- keys with values

pub record IsSpelledField (depth : ℕ) (before : Option (List ℕ)) (s : List ℕ) : Type 0 where
  pub key : List ℕ
  pub value : Tree
  pub is_key : IsKey before key
  pub is_tree : IsTree depth value
  pub spelled : s ≡ spelled_string key ++ spelling value

pub record FieldFirst (depth : ℕ) (before : Option (List ℕ)) (bytes key : List ℕ) (t : Tree) (n : ℕ)
    : Type 0 where
  pub within : n ≤ length bytes
  pub some : 0 < n
  pub is_key : IsKey before key
  pub is_tree : IsTree depth t
  pub spelled : take n bytes ≡ spelled_string key ++ spelling t

abbrev pub IsFieldRead : ℕ → Option (List ℕ) → List ℕ
    → Result (Field Ben × Bor (List ℕ) × ℕ) BenFault → Type 0
IsFieldRead depth before bytes (Ok read) =
    (read.0.key ≡ read.1.now)
    × FieldFirst depth before bytes (read.1.now) (tree_of (read.0.value)) read.2
IsFieldRead depth before bytes (Err (faults.BadBen at)) =
    IsStuck (IsSpelledField depth before) bytes at
IsFieldRead depth before bytes (Err faults.Memory) = ⊤

-- the greatest magnitude of a number of 64 bits
abbrev pub limit_of : Bool → ℕ
limit_of true = 2 ^ 63
limit_of false = 2 ^ 63 - 1

-- and the least
abbrev pub low_of : Bool → ℕ
low_of true = 1
low_of false = 0
