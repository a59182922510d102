-- Lists are read one thing after the other.
use Rattle.std.proofs.Common.{◌≡◌, ◌≤◌, ◌<◌, ◌+◌, ◌-◌, ℕ, List, length}
use Rattle.flux_lexer.specs.declared.kinds.TokenKind.{TokenKind}
use Rattle.flux_lexer.specs.declared.reading.TheConstants.{PROGRAM_LIMIT}
use Rattle.flux_syntax.specs.declared.declarations.Decl.{Decl}
use Rattle.flux_syntax.specs.Symbols.{Symbol}
use Rattle.flux_syntax.specs.steps.Reading.{Read, got, ◌>>=◌, more_at, listed_at, stars_at, all_at, program_at}

-- with these items and symbols left, what is read is what was to be read
pub record Onward {A : Type 0} (read : List Symbol → Read A) (between : TokenKind) (start : List Symbol) (items : List A) (left : List Symbol) : Type 0 where
  pub room : ℕ
  pub enough : length left ≤ room
  pub same : listed_at read between start ≡ more_at read between room items left
  pub shorter : length left < length start

-- the same of declarations
pub record Further (start : List Symbol) (decls : List Decl) (left : List Symbol) : Type 0 where
  pub room : ℕ
  pub enough : length left ≤ room
  pub same : program_at start ≡ all_at room decls left
  pub shorter : length left ≤ length start

-- so many stars have been read, and these symbols are left
pub record Stars (start : List Symbol) (stars : ℕ) (left : List Symbol) : Type 0 where
  pub same : stars_at start ≡ (stars_at left >>= λ more rest. got (stars + more) rest)
  pub shorter : length left ≤ length start
  pub room : stars ≤ PROGRAM_LIMIT - length left
