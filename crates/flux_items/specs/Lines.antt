-- The lines of an items text, and those that are passed over.
use Rattle.std.specs.Prelude.{◌≡◌, ◌⊎◌, ℕ, ◌==◌, ◌||◌, Bool, true, List, ◌∷◌, ◌++◌}
use Rattle.std.specs.List.{list_all, slice_split}

-- LF
abbrev pub is_line_end : ℕ → Bool
is_line_end b = b == 10

-- the lines: what is before, between and after the LFs; after a last LF that is the empty line
abbrev pub lines_of : List ℕ → List (List ℕ)
lines_of text = slice_split is_line_end text

-- space, tab and CR
abbrev pub is_blank : ℕ → Bool
is_blank b = b == 32 || b == 9 || b == 13

abbrev pub AreBlanks : List ℕ → Type 0
AreBlanks bytes = list_all is_blank bytes ≡ true

-- blanks, then `#`, then anything
pub record IsComment (line : List ℕ) : Type 0 where
  pub front : List ℕ
  pub rest : List ℕ
  pub blanks : AreBlanks front
  pub laid : line ≡ front ++ 35 ∷ rest

-- blanks alone, or a comment
abbrev pub IsPassedOver : List ℕ → Type 0
IsPassedOver line = AreBlanks line ⊎ IsComment line
