-- What a text is laid out in: blanks, comments and tokens.
use Rattle.std.specs.Prelude.{◌≡◌, ℕ, suc, ◌+◌, ◌<◌, ◌≤◌, ◌==◌, ◌||◌, ◌&&◌, not, Bool, true, false, if◌then◌else◌, List, [], ◌∷◌, length, take, Option, Some, None}
use Rattle.std.specs.Option.{option_map}
use Rattle.std.specs.List.{prefix_len}
use Rattle.flux_values.specs.declared.texts.TheConstants.{TEXT_LIMIT}
use Rattle.flux_lexer.specs.declared.kinds.TokenKind.{TokenKind}
use Rattle.flux_lexer.specs.Kinds.{kind_of}

-- a blank byte; a comment up to the end of its line; a comment between `/*` and `*/`; a token
pub data Piece : Type 0 where
  blank : Piece
  remark : Piece
  comment : Piece
  token : TokenKind → Piece

-- space, tab, LF and CR
abbrev pub is_blank : ℕ → Bool
is_blank b = b == 32 || b == 9 || b == 10 || b == 13

-- whether `*/` begins here
abbrev pub closes : ℕ → List ℕ → Bool
closes b [] = false
closes b (c ∷ bytes) = b == 42 && c == 47

-- how many bytes are before the first `*/`, if there is one
abbrev pub close_of : List ℕ → Option ℕ
close_of [] = None
close_of (b ∷ bytes) =
    if closes b bytes then Some 0 else option_map (λ n. suc n) (close_of bytes)

-- how many bytes are before the first LF, or the end
abbrev pub line_length : List ℕ → ℕ
line_length bytes = prefix_len (λ b. not (b == 10)) bytes

-- a token of so many bytes begins the text: these bytes spell its kind, no more of them spell a
-- token, and they aren't too many
pub record IsToken (kind : TokenKind) (n : ℕ) (text : List ℕ) : Type 0 where
  pub within : n ≤ length text
  pub spelled : kind_of (take n text) ≡ Some kind
  pub longest : (m : ℕ) → n < m → m ≤ length text → kind_of (take m text) ≡ None
  pub short : n ≤ TEXT_LIMIT

-- a piece of so many bytes begins the text
abbrev pub Begins : Piece → ℕ → List ℕ → Type 0
Begins blank n text =
    (b : ℕ) × (rest : List ℕ) × (text ≡ b ∷ rest) × (is_blank b ≡ true) × (n ≡ 1)
Begins remark n text = (rest : List ℕ) × (text ≡ 47 ∷ 47 ∷ rest) × (n ≡ line_length rest + 2)
Begins comment n text =
    (rest : List ℕ) × (text ≡ 47 ∷ 42 ∷ rest) × (k : ℕ) × (close_of rest ≡ Some k) × (n ≡ k + 4)
Begins (token kind) n text = IsToken kind n text

-- no piece begins the text
abbrev pub BeginsNone : List ℕ → Type 0
BeginsNone text = (piece : Piece) (n : ℕ) → Begins piece n text → ⊥

-- the text is a comment that nothing closes: a `/*` with no `*/` after it, which holds the rest
abbrev pub IsUnclosed : List ℕ → Type 0
IsUnclosed text = (rest : List ℕ) × (text ≡ 47 ∷ 42 ∷ rest) × (close_of rest ≡ None)
