-- Where a byte of a text is.
use Rattle.std.specs.Prelude.{ℕ, ◌+◌, ◌==◌, not, List, length, take}
use Rattle.std.specs.List.{filter, prefix_len}
use Rattle.std.specs.Prelude.{reverse}

-- its line, from 1: one more than the number of LFs before it
abbrev pub line_of : List ℕ → ℕ → ℕ
line_of text at = length (filter (λ b. b == 10) (take at text)) + 1

-- its column, from 1: one more than the number of bytes between the last LF before it and itself
abbrev pub column_of : List ℕ → ℕ → ℕ
column_of text at = prefix_len (λ b. not (b == 10)) (reverse (take at text)) + 1
