-- Steps of the reader: what follows blanks.
use Rattle.std.specs.Prelude.{◌≡◌, ℕ, if◌then◌else◌, List, [], ◌∷◌, drop}
use Rattle.flux_items.specs.Lines.{is_blank, AreBlanks}

-- bytes without the blanks at their front
abbrev pub past_blanks : List ℕ → List ℕ
past_blanks [] = []
past_blanks (b ∷ bytes) = if is_blank b then past_blanks bytes else b ∷ bytes

-- a line ends here: `)` and blanks
pub record Ends (rest : List ℕ) : Type 0 where
  pub closed : rest ≡ 41 ∷ drop 1 rest
  pub blanks : AreBlanks (drop 1 rest)
