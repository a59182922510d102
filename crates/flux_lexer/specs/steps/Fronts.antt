-- Steps of the code: what it sees at the front of a text. No public clause cites it.
use Rattle.std.specs.Prelude.{ℕ, ◌+◌, ◌==◌, nat_lt, if◌then◌else◌, List, [], ◌∷◌, take, Option, Some, None}
use Rattle.std.specs.List.{prefix_len}
use Rattle.flux_values.specs.declared.texts.TheConstants.{TEXT_LIMIT}
use Rattle.flux_lexer.specs.declared.kinds.TokenKind.{TokenKind}
use Rattle.flux_lexer.specs.declared.kinds.TokenKind.TheVariants as kinds
use Rattle.flux_lexer.specs.declared.fronts.Front.{Front}
use Rattle.flux_lexer.specs.declared.fronts.Front.TheVariants.{Skip, Token, Unclosed, Bad}
use Rattle.flux_values.specs.Identifiers.{is_digit, is_word_start, is_word_byte}
use Rattle.flux_lexer.specs.Kinds.{word_kind, single}
use Rattle.flux_lexer.specs.Pieces.{is_blank, close_of, line_length}

-- a token of so many bytes, unless they are too many
abbrev pub limited : TokenKind → ℕ → Front
limited kind n = if nat_lt TEXT_LIMIT n then Bad else Token kind n

-- a word of so many bytes
abbrev pub word_front : List ℕ → ℕ → Front
word_front text n = limited (word_kind (take n text)) n

-- what a comment is, by the bytes before its end
abbrev pub comment_front : Option ℕ → Front
comment_front None = Unclosed
comment_front (Some n) = Skip (n + 4)

-- what a `/` begins
abbrev pub slash_front : List ℕ → Front
slash_front [] = Bad
slash_front (b ∷ rest) =
    if b == 47 then Skip (line_length rest + 2) else
    if b == 42 then comment_front (close_of rest) else
    Bad

-- `>` makes a byte an arrow
abbrev pub arrow_front : TokenKind → Front → List ℕ → Front
arrow_front kind other [] = other
arrow_front kind other (b ∷ rest) = if b == 62 then Token kind 2 else other

-- what any other byte is
abbrev pub single_front : Option TokenKind → Front
single_front None = Bad
single_front (Some kind) = Token kind 1

-- what begins a byte and these after it
abbrev pub front_from : ℕ → List ℕ → Front
front_from b rest =
    if is_word_start b then word_front (b ∷ rest) (prefix_len is_word_byte (b ∷ rest)) else
    if is_digit b then limited kinds.Number (prefix_len is_digit (b ∷ rest)) else
    if is_blank b then Skip 1 else
    if b == 47 then slash_front rest else
    if b == 45 then arrow_front kinds.ThinArrow Bad rest else
    if b == 61 then arrow_front kinds.Arrow (Token kinds.Equals 1) rest else
    single_front (single b)

-- what begins a text
abbrev pub front_of : List ℕ → Front
front_of [] = Bad
front_of (b ∷ rest) = front_from b rest
