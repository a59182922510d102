-- A text's declarations have no more words than the text has tokens.
use Rattle.std.proofs.Common.{◌≤◌, ℕ, Bool, true, false, inl, inr, List, [], ◌∷◌, ◌++◌, length, Option, Some, None, ap, arith, length-append}
use Rattle.flux_lexer.specs.declared.kinds.TokenKind.{TokenKind}
use Rattle.flux_lexer.specs.declared.kinds.TokenKind.TheVariants.{CloseParen, CloseBracket, CloseBrace, Arrow, Equals, Semicolon}
use Rattle.flux_syntax.specs.declared.declarations.Word.{Word}
use Rattle.flux_syntax.specs.declared.declarations.Param.{Param}
use Rattle.flux_syntax.specs.declared.declarations.Constraint.{Constraint}
use Rattle.flux_syntax.specs.declared.declarations.Decl.{Decl}
use Rattle.flux_syntax.specs.declared.declarations.Decl.TheVariants.{Signature, Flow, Source, Typedef, Handler, Atomic, Session}
use Rattle.flux_syntax.specs.Symbols.{Symbol, name, mark}
use Rattle.flux_syntax.specs.Grammar.{More, Listed, Maybe, stars, IsParam, AreParams, IsPattern, ArePatterns, IsMember, IsCode, AreCodes, IsHeld, IsConstraint, IsDeclaration, IsProgram}
use Rattle.flux_syntax.specs.Counted.{total, words_in_pattern, words_in_patterns, words_in, words_of}

-- ---- lists

more_few : {A : Type 0} (P : A → List Symbol → Type 0) (many : A → ℕ) (between : TokenKind) → ((x : A) (a : List Symbol) → P x a → many x ≤ length a) → (xs : List A) (s : List Symbol) → More P between xs s → total many xs ≤ length s
more_few P many between each [] s m = omega arith
more_few P many between each (x ∷ xs) s (a, b, is, p, m) = let rest = more_few P many between each xs b m in omega (arith, rest, each x a p, length-append a b, ap length is)

listed_few : {A : Type 0} (P : A → List Symbol → Type 0) (many : A → ℕ) (between : TokenKind) → ((x : A) (a : List Symbol) → P x a → many x ≤ length a) → (xs : List A) (s : List Symbol) → Listed P between xs s → total many xs ≤ length s
listed_few P many between each [] s m = absurd m
listed_few P many between each (x ∷ xs) s (a, b, is, p, m) = let rest = more_few P many between each xs b m in omega (arith, rest, each x a p, length-append a b, ap length is)

maybe_few : {A : Type 0} (P : A → List Symbol → Type 0) (many : A → ℕ) (between : TokenKind) → ((x : A) (a : List Symbol) → P x a → many x ≤ length a) → (xs : List A) (s : List Symbol) → Maybe P between xs s → total many xs ≤ length s
maybe_few P many between each [] s m = omega arith
maybe_few P many between each (x ∷ xs) s m = listed_few P many between each (x ∷ xs) s m

-- ---- what they are lists of

param_few : (p : Param) (s : List Symbol) → IsParam p s → 2 ≤ length s
param_few p s is = omega (arith, ap length is, length-append (stars p.stars) (name p.name ∷ []))

pattern_few : (p : Option Word) (s : List Symbol) → IsPattern p s → words_in_pattern p ≤ length s
pattern_few None s is = omega arith
pattern_few (Some word) s is = omega (arith, ap length is)

member_few : (w : Word) (s : List Symbol) → IsMember w s → 1 ≤ length s
member_few w s is = omega (arith, ap length is)

code_few : (w : Word) (s : List Symbol) → IsCode w s → 1 ≤ length s
code_few w s is = omega (arith, ap length is)

codes_few : (codes : List Word) (s : List Symbol) → AreCodes codes s → total (λ _. 1) codes ≤ length s
codes_few [] s is = omega arith
codes_few (code ∷ codes) s (a, is, listed) = let few = listed_few IsCode (λ _. 1) _ code_few (code ∷ codes) a listed in omega (arith, few, ap length is, length-append a (mark CloseParen ∷ []))

held_few : (called : Word) (session : Bool) (m s : List Symbol) → IsHeld called session m s → 1 ≤ length s
held_few called false m s is = omega (arith, ap length is)
held_few called true m s (inl is) = omega (arith, ap length is)
held_few called true m s (inr is) = omega (arith, ap length is)

constraint_few : (c : Constraint) (s : List Symbol) → IsConstraint c s → 1 ≤ length s
constraint_few c s (m, marked, held) = held_few c.name c.session m s held

params_few : (params : List Param) (s : List Symbol) → AreParams params s → total (λ _. 2) params ≤ length s
params_few params s (a, is, listed) = let few = maybe_few IsParam (λ _. 2) _ param_few params a listed in omega (arith, few, ap length is, length-append a (mark CloseParen ∷ []))

patterns_few : (patterns : Option (List (Option Word))) (s : List Symbol) → ArePatterns patterns s → words_in_patterns patterns ≤ length s
patterns_few None s is = omega arith
patterns_few (Some patterns) s (a, is, listed) = let few = listed_few IsPattern words_in_pattern _ pattern_few patterns a listed in omega (arith, few, ap length is, length-append a (mark CloseBracket ∷ []))

-- ---- declarations

decl_few : (d : Decl) (s : List Symbol) → IsDeclaration d s → words_in d ≤ length s
decl_few (Signature called ins outs) s (a, b, is, i, o) =
    omega (arith, params_few ins a i, params_few outs b o, ap length is, length-append a (mark Arrow ∷ (b ++ mark Semicolon ∷ [])), length-append b (mark Semicolon ∷ []))
decl_few (Flow called patterns members) s (a, b, is, p, m) =
    omega (arith, patterns_few patterns a p, maybe_few IsMember (λ _. 1) _ member_few members b m, ap length is, length-append a (mark Equals ∷ (b ++ mark Semicolon ∷ [])), length-append b (mark Semicolon ∷ []))
decl_few (Source called target) s is = omega (arith, ap length is)
decl_few (Typedef called function) s is = omega (arith, ap length is)
decl_few (Handler node codes handler) s (a, is, listed) =
    omega (arith, codes_few codes a listed, ap length is, length-append a (mark Arrow ∷ name handler ∷ mark Semicolon ∷ []))
decl_few (Atomic node constraints) s (a, is, listed) =
    omega (arith, listed_few IsConstraint (λ _. 1) _ constraint_few constraints a listed, ap length is, length-append a (mark CloseBrace ∷ mark Semicolon ∷ []))
decl_few (Session source function) s is = omega (arith, ap length is)

-- a program has no more words than symbols
pub words_few : (decls : List Decl) (s : List Symbol) → IsProgram decls s → words_of decls ≤ length s
words_few [] s is = omega arith
words_few (d ∷ decls) s (a, b, is, h, more) = let rest = words_few decls b more in omega (arith, rest, decl_few d a h, length-append a b, ap length is)

-- ---- each declaration has a word

decl_some : (d : Decl) → 1 ≤ words_in d
decl_some (Signature called ins outs) = omega arith
decl_some (Flow called patterns members) = omega arith
decl_some (Source called target) = omega arith
decl_some (Typedef called function) = omega arith
decl_some (Handler node codes handler) = omega arith
decl_some (Atomic node constraints) = omega arith
decl_some (Session source function) = omega arith

-- there are no more declarations than words
pub decls_few : (decls : List Decl) → length decls ≤ words_of decls
decls_few [] = omega arith
decls_few (d ∷ decls) = let more = decls_few decls in omega (arith, more, decl_some d)
