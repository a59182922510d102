-- How many words there are in declarations.
use Rattle.std.specs.Prelude.{ℕ, ◌+◌, List, [], ◌∷◌, Option, Some, None}
use Rattle.flux_syntax.specs.declared.declarations.Word.{Word}
use Rattle.flux_syntax.specs.declared.declarations.Decl.{Decl}
use Rattle.flux_syntax.specs.declared.declarations.Decl.TheVariants.{Signature, Flow, Source, Typedef, Handler, Atomic, Session}

-- so many for each
abbrev pub total : {A : Type 0} → (A → ℕ) → List A → ℕ
total many [] = 0
total many (x ∷ xs) = many x + total many xs

-- `_` is no word
abbrev pub words_in_pattern : Option Word → ℕ
words_in_pattern None = 0
words_in_pattern (Some word) = 1

-- of patterns, if there are any
abbrev pub words_in_patterns : Option (List (Option Word)) → ℕ
words_in_patterns None = 0
words_in_patterns (Some patterns) = total words_in_pattern patterns

-- a parameter has two: its type's and its name; a code is one
abbrev pub words_in : Decl → ℕ
words_in (Signature name ins outs) = 1 + (total (λ _. 2) ins + total (λ _. 2) outs)
words_in (Flow name patterns members) = 1 + (words_in_patterns patterns + total (λ _. 1) members)
words_in (Source name target) = 2
words_in (Typedef name function) = 2
words_in (Handler node codes handler) = 2 + total (λ _. 1) codes
words_in (Atomic node constraints) = 1 + total (λ _. 1) constraints
words_in (Session source function) = 2

-- of all declarations
abbrev pub words_of : List Decl → ℕ
words_of decls = total words_in decls
