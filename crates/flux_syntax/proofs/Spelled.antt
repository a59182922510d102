-- How names and numbers are spelled.
use Rattle.std.specs.Prelude.{◌≡◌, ◌≤◌, ℕ, List, length, Some}
use Rattle.flux_values.specs.declared.texts.TheConstants.{TEXT_LIMIT}
use Rattle.flux_lexer.specs.declared.kinds.TokenKind.TheVariants.{Identifier, Number}
use Rattle.flux_lexer.specs.Kinds.{kind_of}

-- a name: an identifier that isn't too long
pub record IsName (text : List ℕ) : Type 0 where
  pub kind : kind_of text ≡ Some Identifier
  pub short : length text ≤ TEXT_LIMIT

-- a number that isn't too long
pub record IsDigits (text : List ℕ) : Type 0 where
  pub kind : kind_of text ≡ Some Number
  pub short : length text ≤ TEXT_LIMIT
