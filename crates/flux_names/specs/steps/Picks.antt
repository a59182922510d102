-- Steps of the code: words that are or aren't among names. No public clause cites it.
use Rattle.std.specs.Prelude.{ℕ, Bool, true, false, List, map}
use Rattle.std.specs.Borrow.{Bor}
use Rattle.flux_syntax.specs.declared.declarations.Word.{Word}
use Rattle.flux_names.specs.Rows.{among, not_among}

abbrev pub picked : Bool → List (List ℕ) → List Word → List Word
picked true = among
picked false = not_among

-- the words after references
abbrev pub words_now : List (Bor Word) → List Word
words_now words = map (λ word. word.now) words
