-- Fault 4: where tokens stop being those of a program. And the faults 1 to 4 of a text.
use Rattle.std.specs.Prelude.{◌≡◌, ◌⊎◌, ⊤, ℕ, List, [], ◌∷◌, ◌++◌, length, map, Result, Ok, Err}
use Rattle.flux_faults.specs.declared.faults.FaultKind.{FaultKind}
use Rattle.flux_faults.specs.declared.faults.FaultKind.TheVariants.{Unexpected}
use Rattle.flux_faults.specs.declared.faults.CheckFault.{CheckFault}
use Rattle.flux_faults.specs.declared.faults.CheckFault.TheVariants.{Static, Memory}
use Rattle.flux_faults.specs.Faults.{IsPlacedIn}
use Rattle.flux_lexer.specs.declared.kinds.Token.{Token}
use Rattle.flux_lexer.specs.Texts.{AreTokensOf, Stands}
use Rattle.flux_syntax.specs.declared.declarations.Decl.{Decl}
use Rattle.flux_syntax.specs.Symbols.{Symbol, symbol_of}
use Rattle.flux_syntax.specs.Grammar.{IsProgram}
use Rattle.flux_syntax.specs.Declares.{Spell, Declares}

-- some program begins with the tokens
abbrev pub CanBegin : List ℕ → List Token → Type 0
CanBegin text tokens =
    (decls : List Decl) × (more : List Symbol)
    × IsProgram decls (map (symbol_of text) tokens ++ more)

-- no program begins with these tokens and the next one; or they are all, and no program
abbrev pub StopsAt : ℕ → List ℕ → List Token → List Token → Type 0
StopsAt at text before [] =
    (at ≡ length text) × ((decls : List Decl) → Spell text before decls → ⊥)
StopsAt at text before (token ∷ rest) =
    (at ≡ token.start) × (CanBegin text (before ++ token ∷ []) → ⊥)

-- the first token such that no program begins with those up to it is here; or the text ends,
-- and it is no program
pub record IsUnexpected (at : ℕ) (text : List ℕ) (tokens : List Token) : Type 0 where
  pub before : List Token
  pub rest : List Token
  pub split : tokens ≡ before ++ rest
  pub begun : CanBegin text before
  pub stops : StopsAt at text before rest

-- what a refusal says of the tokens
abbrev pub IsFaultOf : List ℕ → List Token → CheckFault → Type 0
IsFaultOf text tokens (Static fault) =
    (fault.kind ≡ Unexpected) × (fault.path ≡ []) × IsUnexpected fault.at text tokens
IsFaultOf text tokens Memory = ⊤

-- the declarations are answered, or memory was short
abbrev pub AreDeclsOrMemory : List Decl → Result (List Decl) CheckFault → Type 0
AreDeclsOrMemory decls (Ok answered) = answered ≡ decls
AreDeclsOrMemory decls (Err Memory) = ⊤
AreDeclsOrMemory decls (Err (Static fault)) = ⊥

-- whatever declarations the tokens spell are answered, unless memory is short
abbrev pub GivesDecls : List ℕ → List Token → Result (List Decl) CheckFault → Type 0
GivesDecls text tokens result =
    (decls : List Decl) → Spell text tokens decls → AreDeclsOrMemory decls result

-- the fault is answered at this place, or memory was short
abbrev pub IsFaultOrMemory : ℕ → Result (List Decl) CheckFault → Type 0
IsFaultOrMemory at (Ok answered) = ⊥
IsFaultOrMemory at (Err Memory) = ⊤
IsFaultOrMemory at (Err (Static fault)) = fault.at ≡ at

-- wherever the tokens stop being a program's, that is answered, unless memory is short
abbrev pub GivesUnexpected : List ℕ → List Token → Result (List Decl) CheckFault → Type 0
GivesUnexpected text tokens result =
    (at : ℕ) → IsUnexpected at text tokens → IsFaultOrMemory at result

-- ---- whole texts

-- one of the faults 1 to 4 applies at a place of the text
abbrev pub IsFaulty : FaultKind → ℕ → List ℕ → Type 0
IsFaulty kind at text =
    Stands kind at text
    ⊎ ((kind ≡ Unexpected)
    × (tokens : List Token) × AreTokensOf tokens text × IsUnexpected at text tokens)

-- what a refusal says of the text: a fault that applies, at a byte of the text or at its end
abbrev pub IsRefusalOf : List ℕ → CheckFault → Type 0
IsRefusalOf text (Static fault) =
    (fault.path ≡ []) × IsFaulty fault.kind fault.at text × IsPlacedIn text (Static fault)
IsRefusalOf text Memory = ⊤

-- whatever the text declares is answered, unless memory is short
abbrev pub GivesDeclared : List ℕ → Result (List Decl) CheckFault → Type 0
GivesDeclared text result =
    (decls : List Decl) → Declares decls text → AreDeclsOrMemory decls result

-- the refusal is this fault, or memory was short
abbrev pub IsThatOrMemory : FaultKind → ℕ → Result (List Decl) CheckFault → Type 0
IsThatOrMemory kind at (Ok answered) = ⊥
IsThatOrMemory kind at (Err Memory) = ⊤
IsThatOrMemory kind at (Err (Static fault)) = (fault.kind ≡ kind) × (fault.at ≡ at)

-- whatever fault applies is answered, unless memory is short
abbrev pub GivesRefusal : List ℕ → Result (List Decl) CheckFault → Type 0
GivesRefusal text result =
    (kind : FaultKind) (at : ℕ) → IsFaulty kind at text → IsThatOrMemory kind at result
