-- Which symbols spell which declarations: each line of the grammar beside its definition.
use Rattle.std.specs.Prelude.{◌≡◌, ℕ, zero, suc, ◌⊎◌, Bool, true, false, List, [], ◌∷◌, ◌++◌, Option, Some, None}
use Rattle.flux_lexer.specs.declared.kinds.TokenKind.{TokenKind}
use Rattle.flux_lexer.specs.declared.kinds.TokenKind.TheVariants.{Source, Typedef, Handle, Error, Atomic, Session, Wildcard, OpenParen, CloseParen, OpenBracket, CloseBracket, OpenBrace, CloseBrace, Comma, Semicolon, Colon, Equals, Star, Question, Bang, ThinArrow, Arrow}
use Rattle.flux_values.specs.declared.answers.Mode.{Mode}
use Rattle.flux_values.specs.declared.answers.Mode.TheVariants.{Reader, Writer}
use Rattle.flux_syntax.specs.declared.declarations.Word.{Word}
use Rattle.flux_syntax.specs.declared.declarations.Param.{Param}
use Rattle.flux_syntax.specs.declared.declarations.Constraint.{Constraint}
use Rattle.flux_syntax.specs.declared.declarations.Decl.{Decl}
use Rattle.flux_syntax.specs.declared.declarations.Decl.TheVariants as decl
use Rattle.flux_syntax.specs.Symbols.{Symbol, name, digits, mark}

-- { "between" x }
abbrev pub More : {A : Type 0} → (A → List Symbol → Type 0) → TokenKind → List A → List Symbol
    → Type 0
More P between [] s = s ≡ []
More P between (x ∷ xs) s =
    (a b : List Symbol) × (s ≡ mark between ∷ (a ++ b)) × P x a × More P between xs b

-- x { "between" x }
abbrev pub Listed : {A : Type 0} → (A → List Symbol → Type 0) → TokenKind → List A → List Symbol
    → Type 0
Listed P between [] s = ⊥
Listed P between (x ∷ xs) s =
    (a b : List Symbol) × (s ≡ a ++ b) × P x a × More P between xs b

-- [ x { "between" x } ]
abbrev pub Maybe : {A : Type 0} → (A → List Symbol → Type 0) → TokenKind → List A → List Symbol
    → Type 0
Maybe P between [] s = s ≡ []
Maybe P between (x ∷ xs) s = Listed P between (x ∷ xs) s

-- { "*" }
abbrev pub stars : ℕ → List Symbol
stars zero = []
stars (suc n) = mark Star ∷ stars n

-- param = IDENT { "*" } IDENT
abbrev pub IsParam : Param → List Symbol → Type 0
IsParam p s = s ≡ name p.ty ∷ (stars p.stars ++ name p.name ∷ [])

-- "(" [ params ] ")"    params = param { "," param }
abbrev pub AreParams : List Param → List Symbol → Type 0
AreParams params s =
    (a : List Symbol) × (s ≡ mark OpenParen ∷ (a ++ mark CloseParen ∷ []))
    × Maybe IsParam Comma params a

-- pattern = "_" | IDENT
abbrev pub IsPattern : Option Word → List Symbol → Type 0
IsPattern None s = s ≡ mark Wildcard ∷ []
IsPattern (Some word) s = s ≡ name word ∷ []

-- [ ":" "[" pattern { "," pattern } "]" ]
abbrev pub ArePatterns : Option (List (Option Word)) → List Symbol → Type 0
ArePatterns None s = s ≡ []
ArePatterns (Some patterns) s =
    (a : List Symbol) × (s ≡ mark Colon ∷ mark OpenBracket ∷ (a ++ mark CloseBracket ∷ []))
    × Listed IsPattern Comma patterns a

-- IDENT
abbrev pub IsMember : Word → List Symbol → Type 0
IsMember word s = s ≡ name word ∷ []

-- [ IDENT { "->" IDENT } ]
abbrev pub AreMembers : List Word → List Symbol → Type 0
AreMembers members s = Maybe IsMember ThinArrow members s

-- NUMBER
abbrev pub IsCode : Word → List Symbol → Type 0
IsCode word s = s ≡ digits word ∷ []

-- [ ":" "(" NUMBER { "," NUMBER } ")" ]
abbrev pub AreCodes : List Word → List Symbol → Type 0
AreCodes [] s = s ≡ []
AreCodes (code ∷ codes) s =
    (a : List Symbol) × (s ≡ mark Colon ∷ mark OpenParen ∷ (a ++ mark CloseParen ∷ []))
    × Listed IsCode Comma (code ∷ codes) a

-- [ mark ]    mark = "?" | "!": a writer may have none
abbrev pub IsMark : Mode → List Symbol → Type 0
IsMark Reader s = s ≡ mark Question ∷ []
IsMark Writer s = (s ≡ []) ⊎ (s ≡ mark Bang ∷ [])

-- scope = "(" "session" ")"
abbrev pub scope : List Symbol
scope = mark OpenParen ∷ mark Session ∷ mark CloseParen ∷ []

-- IDENT [ mark ] [ scope ] | IDENT scope mark, where these symbols are the mark, if there is one
abbrev pub IsHeld : Word → Bool → List Symbol → List Symbol → Type 0
IsHeld called false m s = s ≡ name called ∷ m
IsHeld called true m s = (s ≡ name called ∷ (m ++ scope)) ⊎ (s ≡ name called ∷ (scope ++ m))

-- constraint = IDENT [ mark ] [ scope ] | IDENT scope mark
abbrev pub IsConstraint : Constraint → List Symbol → Type 0
IsConstraint c s = (m : List Symbol) × IsMark c.mode m × IsHeld c.name c.session m s

-- signature = IDENT "(" [ params ] ")" "=>" "(" [ params ] ")" ";"
abbrev pub IsSignature : Word → List Param → List Param → List Symbol → Type 0
IsSignature called ins outs s =
    (a b : List Symbol) × (s ≡ name called ∷ (a ++ mark Arrow ∷ (b ++ mark Semicolon ∷ [])))
    × AreParams ins a × AreParams outs b

-- flow = IDENT [ ":" "[" pattern { "," pattern } "]" ] "=" [ IDENT { "->" IDENT } ] ";"
abbrev pub IsFlow : Word → Option (List (Option Word)) → List Word → List Symbol → Type 0
IsFlow called patterns members s =
    (a b : List Symbol) × (s ≡ name called ∷ (a ++ mark Equals ∷ (b ++ mark Semicolon ∷ [])))
    × ArePatterns patterns a × AreMembers members b

-- handler = "handle" "error" IDENT [ ":" "(" NUMBER { "," NUMBER } ")" ] "=>" IDENT ";"
abbrev pub IsHandler : Word → List Word → Word → List Symbol → Type 0
IsHandler node codes handler s =
    (a : List Symbol)
    × (s ≡ mark Handle ∷ mark Error ∷ name node
    ∷ (a ++ mark Arrow ∷ name handler ∷ mark Semicolon ∷ []))
    × AreCodes codes a

-- atomic = "atomic" IDENT ":" "{" constraint { "," constraint } "}" ";"
abbrev pub IsAtomic : Word → List Constraint → List Symbol → Type 0
IsAtomic node constraints s =
    (a : List Symbol)
    × (s ≡ mark Atomic ∷ name node ∷ mark Colon ∷ mark OpenBrace
    ∷ (a ++ mark CloseBrace ∷ mark Semicolon ∷ []))
    × Listed IsConstraint Comma constraints a

-- declaration = signature | flow | source | typedef | handler | atomic | session
abbrev pub IsDeclaration : Decl → List Symbol → Type 0
IsDeclaration (decl.Signature called ins outs) s = IsSignature called ins outs s
IsDeclaration (decl.Flow called patterns members) s = IsFlow called patterns members s
-- source = "source" IDENT "=>" IDENT ";"
IsDeclaration (decl.Source called target) s =
    s ≡ mark Source ∷ name called ∷ mark Arrow ∷ name target ∷ mark Semicolon ∷ []
-- typedef = "typedef" IDENT IDENT ";"
IsDeclaration (decl.Typedef called function) s =
    s ≡ mark Typedef ∷ name called ∷ name function ∷ mark Semicolon ∷ []
IsDeclaration (decl.Handler node codes handler) s = IsHandler node codes handler s
IsDeclaration (decl.Atomic node constraints) s = IsAtomic node constraints s
-- session = "session" IDENT "=>" IDENT ";"
IsDeclaration (decl.Session source function) s =
    s ≡ mark Session ∷ name source ∷ mark Arrow ∷ name function ∷ mark Semicolon ∷ []

-- program = { declaration }
abbrev pub IsProgram : List Decl → List Symbol → Type 0
IsProgram [] s = s ≡ []
IsProgram (d ∷ decls) s =
    (a b : List Symbol) × (s ≡ a ++ b) × IsDeclaration d a × IsProgram decls b
