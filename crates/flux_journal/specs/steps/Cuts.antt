-- Steps of reading a line: texts cut at a byte, and numbers.
use Rattle.std.specs.Prelude.{◌≡◌, ℕ, ◌≤◌, ◌==◌, false, List, ◌∷◌, ◌++◌}
use Rattle.std.specs.List.{AllByRecursion}
use Rattle.std.specs.Fmt.{decimal}

-- a byte is nowhere in a text
abbrev pub HasNone : ℕ → List ℕ → Type 0
HasNone mark text = AllByRecursion (λ b. (b == mark) ≡ false) text

-- what is before and after the first mark
pub record IsCut (mark : ℕ) (text front behind : List ℕ) : Type 0 where
  pub none : HasNone mark front
  pub laid : text ≡ front ++ mark ∷ behind

-- the bytes are a number up to a limit
abbrev pub IsNumber : ℕ → List ℕ → ℕ → Type 0
IsNumber limit bytes number = (number ≤ limit) × (bytes ≡ decimal number)
