-- The tokens of a text as the grammar sees them: names, numbers, and marks with the reserved words.
use Rattle.std.specs.Prelude.{ℕ, ◌-◌, ◌==◌, ◌||◌, Bool, if◌then◌else◌, List, take, drop}
use Rattle.flux_lexer.specs.declared.kinds.Token.{Token}
use Rattle.flux_lexer.specs.declared.kinds.TokenKind.{TokenKind}
use Rattle.flux_lexer.specs.declared.kinds.TokenKind.TheVariants.{Identifier, Number, Source, Typedef, Handle, Error, Atomic, Session, Wildcard, OpenParen, CloseParen, OpenBracket, CloseBracket, OpenBrace, CloseBrace, Comma, Semicolon, Colon, Equals, Star, Question, Bang, ThinArrow, Arrow}
use Rattle.flux_syntax.specs.declared.declarations.Word.{Word}

-- a name or a number with its place, or a mark or reserved word
pub data Symbol : Type 0 where
  name : Word → Symbol
  digits : Word → Symbol
  mark : TokenKind → Symbol

-- the kinds, numbered
abbrev pub number : TokenKind → ℕ
number Identifier = 0
number Source = 1
number Typedef = 2
number Handle = 3
number Error = 4
number Atomic = 5
number Session = 6
number Wildcard = 7
number OpenParen = 8
number CloseParen = 9
number OpenBracket = 10
number CloseBracket = 11
number OpenBrace = 12
number CloseBrace = 13
number Comma = 14
number Semicolon = 15
number Colon = 16
number Equals = 17
number Star = 18
number Question = 19
number Bang = 20
number ThinArrow = 21
number Arrow = 22
number Number = 23

-- whether two kinds are the same
abbrev pub is : TokenKind → TokenKind → Bool
is a b = number a == number b

-- whether a kind's tokens have words of their own: names and numbers
abbrev pub has_word : TokenKind → Bool
has_word kind = is Identifier kind || is Number kind

-- the word of a token: its bytes in the text, and its place
abbrev pub word_of : List ℕ → Token → Word
word_of text token =
    record { text = take (token.end - token.start) (drop token.start text); at = token.start }

-- what a token is for the grammar
abbrev pub symbol_of : List ℕ → Token → Symbol
symbol_of text token =
    if is Identifier token.kind then name (word_of text token) else
    if is Number token.kind then digits (word_of text token) else
    mark token.kind
