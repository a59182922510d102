-- Which bytes a token's kind spells.
use Rattle.std.specs.Prelude.{ℕ, ◌==◌, ◌&&◌, Bool, false, if◌then◌else◌, List, [], ◌∷◌, Option, Some, None, codes}
use Rattle.std.specs.List.{list_all}
use Rattle.std.specs.Str.{bytes_eq}
use Rattle.flux_values.specs.Identifiers.{is_digit, is_word}
use Rattle.flux_lexer.specs.declared.kinds.TokenKind.{TokenKind}
use Rattle.flux_lexer.specs.declared.kinds.TokenKind.TheVariants.{Identifier, Number, Source, Typedef, Handle, Error, Atomic, Session, Wildcard, OpenParen, CloseParen, OpenBracket, CloseBracket, OpenBrace, CloseBrace, Comma, Semicolon, Colon, Equals, Star, Question, Bang, ThinArrow, Arrow}

-- bytes that are a number: one digit or more
abbrev pub is_number : List ℕ → Bool
is_number [] = false
is_number (b ∷ bytes) = is_digit b && list_all is_digit bytes

-- the kind of a word: a reserved word's own, the wildcard, or an identifier
abbrev pub word_kind : List ℕ → TokenKind
word_kind word =
    if bytes_eq word (codes "source") then Source else
    if bytes_eq word (codes "typedef") then Typedef else
    if bytes_eq word (codes "handle") then Handle else
    if bytes_eq word (codes "error") then Error else
    if bytes_eq word (codes "atomic") then Atomic else
    if bytes_eq word (codes "session") then Session else
    if bytes_eq word (codes "_") then Wildcard else Identifier

-- the kind of one byte that is no letter and no digit
abbrev pub single : ℕ → Option TokenKind
single b =
    if b == 40 then Some OpenParen else
    if b == 41 then Some CloseParen else
    if b == 91 then Some OpenBracket else
    if b == 93 then Some CloseBracket else
    if b == 123 then Some OpenBrace else
    if b == 125 then Some CloseBrace else
    if b == 44 then Some Comma else
    if b == 59 then Some Semicolon else
    if b == 58 then Some Colon else
    if b == 61 then Some Equals else
    if b == 42 then Some Star else
    if b == 63 then Some Question else
    if b == 33 then Some Bang else
    None

-- the kind of two bytes that are no word and no number
abbrev pub double : List ℕ → Option TokenKind
double bytes =
    if bytes_eq bytes (codes "->") then Some ThinArrow else
    if bytes_eq bytes (codes "=>") then Some Arrow else
    None

-- the kind of a mark: one or two bytes that are no word and no number
abbrev pub mark_kind : List ℕ → Option TokenKind
mark_kind [] = None
mark_kind (b ∷ []) = single b
mark_kind (b ∷ c ∷ bytes) = double (b ∷ c ∷ bytes)

-- the kind that bytes spell, if they do
abbrev pub kind_of : List ℕ → Option TokenKind
kind_of bytes =
    if is_word bytes then Some (word_kind bytes) else
    if is_number bytes then Some Number else
    mark_kind bytes
