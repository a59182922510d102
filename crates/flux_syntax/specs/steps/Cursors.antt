-- Steps of the code: what a cursor over the tokens of a text rests on. No public clause cites it.
use Rattle.std.specs.Prelude.{ℕ, ◌+◌, ◌≤◌, List, length}
use Rattle.std.specs.List.{AllByRecursion}
use Rattle.flux_values.specs.declared.texts.TheConstants.{TEXT_LIMIT}
use Rattle.flux_lexer.specs.declared.kinds.Token.{Token}
use Rattle.flux_lexer.specs.declared.reading.TheConstants.{PROGRAM_LIMIT}

-- a token lies in the text, and isn't too long
pub record Lies (text : List ℕ) (token : Token) : Type 0 where
  pub rising : token.start ≤ token.end
  pub within : token.end ≤ length text
  pub short : token.end ≤ token.start + TEXT_LIMIT

-- the tokens of a text lie in it, and there are no more of them than bytes in the longest text
pub record Fit (text : List ℕ) (tokens : List Token) : Type 0 where
  pub lie : AllByRecursion (Lies text) tokens
  pub few : length tokens ≤ PROGRAM_LIMIT
