-- What the program of a load declares.
use Rattle.std.specs.Prelude.{ℕ, ◌+◌, true, false, List, [], ◌∷◌, codes, Some, None}
use Rattle.flux_values.specs.declared.answers.Mode.TheVariants.{Reader, Writer}
use Rattle.flux_syntax.specs.declared.declarations.Word.{Word}
use Rattle.flux_syntax.specs.declared.declarations.Param.{Param}
use Rattle.flux_syntax.specs.declared.declarations.Decl.{Decl}
use Rattle.flux_syntax.specs.declared.declarations.Decl.TheVariants.{Signature, Flow, Source}
use Rattle.flux_syntax.specs.declared.declarations.Decl.TheVariants.{Typedef, Atomic, Session}

-- a word at a place of the text
abbrev pub word : List ℕ → ℕ → Word
word text at = record { text = text; at = at }

-- the parameter `int n` at a place of the text
abbrev pub number : ℕ → List Param
number at = record { ty = word (codes "int") at; stars = 0; name = word (codes "n") (at + 4) } ∷ []

-- four signatures, a predicate, a source, its session, three flows, and four lines of constraints
abbrev pub program_decls : List Decl
program_decls =
    Signature (word (codes "Tick") 0) [] (number 12)
    ∷ Signature (word (codes "Pass") 20) (number 26) (number 37)
    ∷ Signature (word (codes "Add") 45) (number 50) (number 61)
    ∷ Signature (word (codes "Bump") 69) (number 75) (number 86)
    ∷ Typedef (word (codes "zero") 102) (word (codes "IsZero") 107)
    ∷ Source (word (codes "Tick") 122) (word (codes "Load") 130)
    ∷ Session (word (codes "Tick") 144) (word (codes "ByNumber") 152)
    ∷ Flow (word (codes "Load") 162) (Some (Some (word (codes "zero") 168) ∷ []))
    (word (codes "Pass") 176 ∷ [])
    ∷ Flow (word (codes "Load") 182) (Some (None ∷ []))
    (word (codes "Visit") 193 ∷ word (codes "Add") 202 ∷ [])
    ∷ Flow (word (codes "Visit") 207) None (word (codes "Bump") 215 ∷ [])
    ∷ Atomic (word (codes "Load") 228)
    (record { name = word (codes "aisle") 234; mode = Reader; session = false } ∷ [])
    ∷ Atomic (word (codes "Visit") 250)
    (record { name = word (codes "zone") 257; mode = Reader; session = false } ∷ [])
    ∷ Atomic (word (codes "Bump") 272)
    (record { name = word (codes "visits") 278; mode = Writer; session = true } ∷ [])
    ∷ Atomic (word (codes "Add") 303)
    (record { name = word (codes "counter") 308; mode = Writer; session = false } ∷ [])
    ∷ []
