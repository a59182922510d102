-- Steps of the reader: at which place no text of a set goes on.
use Rattle.std.specs.Prelude.{◌≡◌, ℕ, ◌<◌, ◌≤◌, List, [], ◌∷◌, ◌++◌, length, take, drop}

-- some text of the set begins with these bytes
pub record CanGrow (L : List ℕ → Type 0) (bytes : List ℕ) : Type 0 where
  pub more : List ℕ
  pub grown : L (bytes ++ more)

-- bytes that begin as others do: with the same first byte, or none
abbrev pub Follows : List ℕ → List ℕ → Type 0
Follows [] y = y ≡ []
Follows (c ∷ q) y = y ≡ c ∷ drop 1 y

-- some text of the set begins with the bytes before this place, and none goes on with the byte at
-- it; of no bytes nothing is said
pub record IsStuck (L : List ℕ → Type 0) (bytes : List ℕ) (at : ℕ) : Type 0 where
  pub within : at ≤ length bytes
  pub grows : 0 < at → CanGrow L (take at bytes)
  pub stops : (y z s : List ℕ) → L s → Follows (drop at bytes) y → take at bytes ++ y ≡ s ++ z → ⊥
