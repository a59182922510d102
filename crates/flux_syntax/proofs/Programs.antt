-- A program is read declaration by declaration.
use Rattle.std.proofs.Common.{◌≡◌, ◌≤◌, ℕ, zero, suc, List, [], ◌∷◌, ◌++◌, length, refl, sym, ap, ◌∙◌, arith, append_assoc, length-append}
use Rattle.std.proofs.lemmas.List.{append-nil}
use Rattle.flux_syntax.specs.declared.declarations.Decl.{Decl}
use Rattle.flux_syntax.specs.Symbols.{Symbol}
use Rattle.flux_syntax.specs.Grammar.{IsDeclaration, IsProgram}
use Rattle.flux_syntax.specs.steps.Reading.{Read, got, stuck, ◌>>=◌, declaration_at, all_at, program_at}
use Rattle.flux_syntax.proofs.Told.{head, none_same, Told_of, Told, told_as, told_weaken, Both, seq}
use Rattle.flux_syntax.proofs.Lines.{tell_declaration}
use Rattle.flux_syntax.proofs.Whole.{declaration_whole, some_symbol}

-- ---- what a reader tells

abbrev all : List Decl → List Symbol → Read (List Decl)
all decls ts = all_at (length ts) decls ts

-- one declaration, and then all
abbrev next : List Decl → List Symbol → Read (List Decl)
next decls ts = declaration_at ts >>= λ d rest. all (decls ++ d ∷ []) rest

shorter : (d : Decl) (ts used rest : List Symbol) (n : ℕ) → ts ≡ used ++ rest → IsDeclaration d used → length ts ≤ suc n → length rest ≤ n
shorter d ts [] rest n is p le = absurd (some_symbol d p)
shorter d ts (t ∷ used) rest n is p le = omega (arith, le, length-append used rest, ap length is)

enough : (n m : ℕ) (decls : List Decl) (ts : List Symbol) → length ts ≤ n → length ts ≤ m → all_at n decls ts ≡ all_at m decls ts
enough zero zero decls ts le lt = refl
enough zero (suc m) decls [] le lt = refl
enough zero (suc m) decls (t ∷ rest) le lt = absurd (omega (arith, le))
enough (suc n) zero decls [] le lt = refl
enough (suc n) zero decls (t ∷ rest) le lt = absurd (omega (arith, lt))
enough (suc n) (suc m) decls [] le lt = refl
enough (suc n) (suc m) decls (t ∷ rest) le lt = went (declaration_at (t ∷ rest)) (tell_declaration.told (t ∷ rest)) (enough n m)
  where
    went : (r : Read Decl) → Told_of declaration_at IsDeclaration (t ∷ rest) r → ((decls : List Decl) (left : List Symbol) → length left ≤ n → length left ≤ m → all_at n decls left ≡ all_at m decls left)
        → (r >>= λ d left. all_at n (decls ++ d ∷ []) left) ≡ (r >>= λ d left. all_at m (decls ++ d ∷ []) left)
    went (got d left) (used, is, p, steady) same = same (decls ++ d ∷ []) left (shorter d (t ∷ rest) used left n is p le) (shorter d (t ∷ rest) used left m is p lt)
    went (stuck left) told same = refl

all_next : (decls : List Decl) (t : Symbol) (rest : List Symbol) → all decls (t ∷ rest) ≡ next decls (t ∷ rest)
all_next decls t rest = went (declaration_at (t ∷ rest)) (tell_declaration.told (t ∷ rest))
  where
    went : (r : Read Decl) → Told_of declaration_at IsDeclaration (t ∷ rest) r → (r >>= λ d left. all_at (length rest) (decls ++ d ∷ []) left) ≡ (r >>= λ d left. all (decls ++ d ∷ []) left)
    went (got d left) (used, is, p, steady) = enough (length rest) (length left) (decls ++ d ∷ []) left (shorter d (t ∷ rest) used left (length rest) is p (omega arith)) (omega arith)
    went (stuck left) told = refl

abbrev IsRest : List Decl → List Decl → List Symbol → Type 0
IsRest decls ds used = (new : List Decl) × (ds ≡ decls ++ new) × IsProgram new used

told_all : (n : ℕ) (decls : List Decl) (ts : List Symbol) → length ts ≤ n → Told (all decls) (IsRest decls) ts
told_all n decls [] le = ([], refl, ([], sym (append-nil decls), refl), λ other same. let none = none_same other same in rw none refl)
told_all zero decls (t ∷ rest) le = absurd (omega (arith, le))
told_all (suc n) decls (t ∷ rest) le =
    let inner : Told (next decls) (Both IsDeclaration (λ d ds b. IsRest (decls ++ d ∷ []) ds b)) (t ∷ rest) =
    seq declaration_at (λ d left. all (decls ++ d ∷ []) left) IsDeclaration (λ d ds b. IsRest (decls ++ d ∷ []) ds b) (t ∷ rest) (tell_declaration.told (t ∷ rest))
    (λ d used left is p. told_all n (decls ++ d ∷ []) left (shorter d (t ∷ rest) used left n is p le)) (λ d. (decls ++ d ∷ [], [], ([], sym (append-nil (decls ++ d ∷ [])), refl))) in
    told_as (all decls) (next decls) (IsRest decls) (t ∷ rest) (λ s same. each s same) (told_weaken (next decls) (Both IsDeclaration (λ d ds b. IsRest (decls ++ d ∷ []) ds b)) (IsRest decls) (t ∷ rest) (next decls (t ∷ rest)) (λ ds used h. whole ds used h) inner)
  where
    each : (s : List Symbol) → head (t ∷ rest) ≡ head s → all decls s ≡ next decls s
    each [] same = absurd cc
    each (u ∷ s) same = all_next decls u s

    whole : (ds : List Decl) (used : List Symbol) → Both IsDeclaration (λ d ds b. IsRest (decls ++ d ∷ []) ds b) ds used → IsRest decls ds used
    whole ds used (d, a, b, is, p, (new, e, m)) = (d ∷ new, e ∙ append_assoc decls (d ∷ []) new, (a, b, is, p, m))

-- what the reader of programs tells
pub told_program : (ts : List Symbol) → Told program_at IsProgram ts
told_program ts = told_weaken program_at (IsRest []) IsProgram ts (program_at ts) (λ ds used (new, e, m). rw e m) (told_all (length ts) [] ts (omega arith))

-- ---- what is read

-- all symbols are read, or it is stuck
pub at_end : (n : ℕ) (decls ds : List Decl) (ts rest : List Symbol) → all_at n decls ts ≡ got ds rest → rest ≡ []
at_end zero decls ds [] rest e = sym (left_of e)
  where
    left : {A : Type 0} → Read A → List Symbol
    left (got x rest) = rest
    left (stuck rest) = rest

    left_of : {a b : List Decl} {r s : List Symbol} → ◌≡◌ {A = Read (List Decl)} (got a r) (got b s) → r ≡ s
    left_of e = ap left e
at_end zero decls ds (t ∷ ts) rest e = absurd cc
at_end (suc n) decls ds [] rest e = sym (left_of e)
  where
    left : {A : Type 0} → Read A → List Symbol
    left (got x rest) = rest
    left (stuck rest) = rest

    left_of : {a b : List Decl} {r s : List Symbol} → ◌≡◌ {A = Read (List Decl)} (got a r) (got b s) → r ≡ s
    left_of e = ap left e
at_end (suc n) decls ds (t ∷ ts) rest e = went (declaration_at (t ∷ ts)) e (at_end n)
  where
    went : (r : Read Decl) → (r >>= λ d left. all_at n (decls ++ d ∷ []) left) ≡ got ds rest → ((decls ds : List Decl) (ts rest : List Symbol) → all_at n decls ts ≡ got ds rest → rest ≡ []) → rest ≡ []
    went (got d left) e back = back (decls ++ d ∷ []) ds left rest e
    went (stuck left) e back = absurd cc

all_whole : (n : ℕ) (decls new : List Decl) (ts : List Symbol) → IsProgram new ts → length ts ≤ n → all_at n decls ts ≡ got (decls ++ new) []
all_whole zero decls [] ts none le = rw none (ap (λ (l : List Decl). got l []) (sym (append-nil decls)))
all_whole (suc n) decls [] ts none le = rw none (ap (λ (l : List Decl). got l []) (sym (append-nil decls)))
all_whole zero decls (d ∷ new) ts (a, b, is, p, m) le = absurd (bad a is p)
  where
    bad : (a : List Symbol) → ts ≡ a ++ b → IsDeclaration d a → ⊥
    bad [] is p = some_symbol d p
    bad (t ∷ a) is p = omega (arith, le, ap length is)
all_whole (suc n) decls (d ∷ new) ts (a, b, is, p, m) le = one ts is (all_whole n)
  where
    one : (l : List Symbol) → l ≡ a ++ b → ((decls new : List Decl) (ts : List Symbol) → IsProgram new ts → length ts ≤ n → all_at n decls ts ≡ got (decls ++ new) []) → all_at (suc n) decls l ≡ got (decls ++ d ∷ new) []
    one [] e back = let none : declaration_at [] ≡ got d b = ap declaration_at e ∙ declaration_whole d a b p in absurd cc
    one (t ∷ rest) e back =
        let first : declaration_at (t ∷ rest) ≡ got d b = ap declaration_at e ∙ declaration_whole d a b p in
        rw first (back (decls ++ d ∷ []) new b m (shorter d ts a b n is p le) ∙ ap (λ (l : List Decl). got l []) (append_assoc decls (d ∷ []) new))

-- a program is read
pub program_whole : (decls : List Decl) (ts : List Symbol) → IsProgram decls ts → program_at ts ≡ got decls []
program_whole decls ts is = all_whole (length ts) [] decls ts is (omega arith)
