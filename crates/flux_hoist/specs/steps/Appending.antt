-- Steps of the report: pieces that are added to a text.
use Rattle.std.specs.Prelude.{◌≡◌, ℕ, List, ◌++◌}

-- a text has grown by such a piece
pub record HasGained (Is : List ℕ → Type 0) (before after : List ℕ) : Type 0 where
  pub piece : List ℕ
  pub is : Is piece
  pub added : after ≡ before ++ piece
