-- Steps of the reader: which bytes may begin a key after another, by the key's length.
use Rattle.std.specs.Prelude.{◌≡◌, ℕ, ◌+◌, ◌<◌, ◌≤◌, ◌==◌, if◌then◌else◌, List, [], ◌∷◌, ◌++◌, length, take, Option, Some, None, Result, Ok, Err, All, ⊤}
use Rattle.std.specs.Borrow.{Bor}
use Rattle.bencoding.specs.Trees.{IsKey, spelled_string}
use Rattle.bencoding.specs.steps.Places.{IsStuck}

-- how many bytes of 255 are at the front
abbrev pub run : List ℕ → ℕ
run [] = 0
run (b ∷ bytes) = if b == 255 then run bytes + 1 else 0

-- the length of the shortest key after another, or after none
abbrev pub least : Option (List ℕ) → ℕ
least None = 0
least (Some before) = run before + 1

abbrev pub AreKeyBytes : Option (List ℕ) → Type 0
AreKeyBytes None = ⊤
AreKeyBytes (Some before) = All (λ b. b < 256) before

-- some key is so many bytes long and begins so
pub record Rises (before : Option (List ℕ)) (front : List ℕ) (long : ℕ) : Type 0 where
  pub more : List ℕ
  pub whole : length (front ++ more) ≡ long
  pub is_key : IsKey before (front ++ more)

-- up to a place some key begins so, and none with the byte at it
pub record IsStop (before : Option (List ℕ)) (front : List ℕ) (long at : ℕ) : Type 0 where
  pub within : at < length front
  pub rises : Rises before (take at front) long
  pub stops : (key y : List ℕ) → IsKey before key → length key ≡ long
      → key ≡ take (at + 1) front ++ y → ⊥

abbrev pub IsStopFound : Option (List ℕ) → List ℕ → ℕ → Option ℕ → Type 0
IsStopFound before front long (Some at) = IsStop before front long at
IsStopFound before front long None = Rises before front long

-- keys of some length
pub record IsLongKey (before : Option (List ℕ)) (long : ℕ) (s : List ℕ) : Type 0 where
  pub is_key : IsKey before s
  pub whole : length s ≡ long

-- the spellings of such keys
pub record IsSpelledKey (before : Option (List ℕ)) (s : List ℕ) : Type 0 where
  pub key : List ℕ
  pub is_key : IsKey before key
  pub spelled : s ≡ spelled_string key

-- such a key's spelling begins the bytes
pub record BeginsKey (before : Option (List ℕ)) (bytes key : List ℕ) (n : ℕ) : Type 0 where
  pub within : n ≤ length bytes
  pub is_key : IsKey before key
  pub spelled : take n bytes ≡ spelled_string key
  pub some : 0 < n

abbrev pub IsKeyRead : Option (List ℕ) → List ℕ → Result (Bor (List ℕ) × ℕ) ℕ → Type 0
IsKeyRead before bytes (Ok read) = BeginsKey before bytes (read.0.now) read.1
IsKeyRead before bytes (Err at) = IsStuck (IsSpelledKey before) bytes at
