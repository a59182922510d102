-- Which bytes are an identifier.
use Rattle.std.specs.Prelude.{◌≡◌, ℕ, ◌==◌, ◌&&◌, ◌||◌, nat_le, Bool, true, false, List, [], ◌∷◌, codes}
use Rattle.std.specs.List.{list_all, list_any}
use Rattle.std.specs.Str.{bytes_eq}

abbrev pub is_letter : ℕ → Bool
is_letter b = (nat_le 65 b && nat_le b 90) || (nat_le 97 b && nat_le b 122)

abbrev pub is_digit : ℕ → Bool
is_digit b = nat_le 48 b && nat_le b 57

-- a word begins with a letter or `_`, and goes on with these and digits
abbrev pub is_word_start : ℕ → Bool
is_word_start b = is_letter b || b == 95

abbrev pub is_word_byte : ℕ → Bool
is_word_byte b = is_word_start b || is_digit b

abbrev pub is_word : List ℕ → Bool
is_word [] = false
is_word (b ∷ bytes) = is_word_start b && list_all is_word_byte bytes

-- the words that are no identifiers: those of the grammar, and the wildcard
abbrev pub reserved_words : List (List ℕ)
reserved_words = codes "source" ∷ codes "typedef" ∷ codes "handle" ∷ codes "error" ∷ codes "atomic"
    ∷ codes "session" ∷ codes "_" ∷ []

-- an identifier is a word that isn't reserved
pub record IsIdentifier (name : List ℕ) : Type 0 where
  pub word : is_word name ≡ true
  pub free : list_any (bytes_eq name) reserved_words ≡ false
