-- What a text declares.
use Rattle.std.specs.Prelude.{◌≡◌, ℕ, List, map}
use Rattle.flux_lexer.specs.declared.kinds.Token.{Token}
use Rattle.flux_lexer.specs.Texts.{AreTokensOf}
use Rattle.flux_syntax.specs.declared.declarations.Decl.{Decl}
use Rattle.flux_syntax.specs.Symbols.{symbol_of}
use Rattle.flux_syntax.specs.Grammar.{IsProgram}

-- the tokens spell these declarations
abbrev pub Spell : List ℕ → List Token → List Decl → Type 0
Spell text tokens decls = IsProgram decls (map (symbol_of text) tokens)

-- they spell one list of declarations at most
abbrev pub HasOneReading : List ℕ → List Token → Type 0
HasOneReading text tokens =
    (decls others : List Decl) → Spell text tokens decls → Spell text tokens others
    → decls ≡ others

-- the text's tokens spell these declarations
pub record Declares (decls : List Decl) (text : List ℕ) : Type 0 where
  pub tokens : List Token
  pub are : AreTokensOf tokens text
  pub spelled : Spell text tokens decls
