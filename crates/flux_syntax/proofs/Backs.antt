-- The text of each thing has its symbols again, with the places at which its names now are.
use Rattle.std.proofs.Common.{◌≡◌, ℕ, zero, suc, Bool, true, false, List, [], ◌∷◌, ◌++◌, map, codes, replicate, Option, Some, None, refl, sym, ap, subst, inl, inr, append_assoc}
use Rattle.std.specs.List.{flat_map, AllByRecursion}
use Rattle.std.specs.Option.{option_map}
use Rattle.flux_values.specs.declared.answers.Mode.{Mode}
use Rattle.flux_values.specs.declared.answers.Mode.TheVariants.{Reader, Writer}
use Rattle.flux_lexer.specs.declared.kinds.TokenKind.{TokenKind}
use Rattle.flux_lexer.specs.declared.kinds.TokenKind.TheVariants.{Source, Typedef, Handle, Error, Atomic, Session, Wildcard, OpenParen, CloseParen, OpenBracket, CloseBracket, OpenBrace, CloseBrace, Comma, Semicolon, Colon, Equals, Star, Question, ThinArrow, Arrow}
use Rattle.flux_lexer.specs.declared.fronts.Front.TheVariants as fronts
use Rattle.flux_lexer.specs.steps.Fronts.{front_of}
use Rattle.flux_syntax.specs.declared.declarations.Word.{Word}
use Rattle.flux_syntax.specs.declared.declarations.Param.{Param}
use Rattle.flux_syntax.specs.declared.declarations.Constraint.{Constraint}
use Rattle.flux_syntax.specs.declared.declarations.Decl.{Decl}
use Rattle.flux_syntax.specs.declared.declarations.Decl.TheVariants as decl
use Rattle.flux_syntax.specs.Symbols.{Symbol, name, digits, mark}
use Rattle.flux_syntax.specs.Grammar.{More, Listed, Maybe, stars, IsParam, AreParams, IsPattern, ArePatterns, IsMember, IsCode, AreCodes, scope, IsMark, IsHeld, IsConstraint, IsDeclaration, IsProgram}
use Rattle.flux_syntax.proofs.Spelled.{IsName, IsDigits}
use Rattle.flux_syntax.specs.Formatted.{joined, param_text, params_text, pattern_text, patterns_text, word_text, codes_text, members_text, mode_text, scope_text, constraint_text, line_of, formatted}
use Rattle.flux_syntax.specs.Again.{bare, bare_param, bare_constraint, bare_decl}
use Rattle.flux_syntax.proofs.Printed.{Prints, prints_as, prints_end, prints_blank, prints_mark, prints_name, prints_number, After, EndsWord}

-- ---- names of symbols

-- a name or a number is spelled as one
abbrev pub IsGood : Symbol → Type 0
IsGood (name word) = IsName word.text
IsGood (digits word) = IsDigits word.text
IsGood (mark kind) = Unit {0}

-- all names and numbers are
abbrev pub Good : List Symbol → Type 0
Good s = AllByRecursion IsGood s

good_split : (a b : List Symbol) → Good (a ++ b) → Good a × Good b
good_split [] b g = (tt, g)
good_split (s ∷ a) b g = let both = good_split a b g.1 in ((g.0, both.0), both.1)

-- ---- things

-- the same thing apart from places is in front
abbrev pub Front : {A : Type 0} → (A → A) → (A → List Symbol → Type 0) → A → (List Symbol → Type 0) → List Symbol → Type 0
Front {A} plain P x R s = (y : A) × (a rest : List Symbol) × (s ≡ a ++ rest) × (plain y ≡ plain x) × P y a × R rest

-- the text of each thing has it again
pub record Backs {A : Type 0} (text : A → List ℕ) (plain : A → A) (P : A → List Symbol → Type 0) : Type 1 where
  pub back : (R : List Symbol → Type 0) (x : A) (a : List Symbol) (rest : List ℕ) → P x a → Good a → EndsWord rest → Prints R rest → Prints (Front plain P x R) (text x ++ rest)

-- the text of a mark between things
pub record Between (kind : TokenKind) (bytes : List ℕ) : Type 1 where
  pub back : (R : List Symbol → Type 0) (rest : List ℕ) → Prints R rest → Prints (After (λ _. mark kind) R) (bytes ++ rest)
  pub ends : (rest : List ℕ) → EndsWord (bytes ++ rest)

-- the same things apart from places are in front
abbrev pub Fronts : {A : Type 0} → (A → A) → (List A → List Symbol → Type 0) → List A → (List Symbol → Type 0) → List Symbol → Type 0
Fronts {A} plain P xs R s = (ys : List A) × (a rest : List Symbol) × (s ≡ a ++ rest) × (map plain ys ≡ map plain xs) × P ys a × R rest

ends_others : {A : Type 0} (text : A → List ℕ) (between : TokenKind) (bytes : List ℕ) (xs : List A) (rest : List ℕ) → Between between bytes → EndsWord rest → EndsWord (flat_map (λ y. bytes ++ text y) xs ++ rest)
ends_others text between bytes [] rest b ends = ends
ends_others text between bytes (x ∷ xs) rest b ends =
    rw (append_assoc (bytes ++ text x) (flat_map (λ y. bytes ++ text y) xs) rest, append_assoc bytes (text x) (flat_map (λ y. bytes ++ text y) xs ++ rest)) (b.ends (text x ++ (flat_map (λ y. bytes ++ text y) xs ++ rest)))

back_more : {A : Type 0} (text : A → List ℕ) (plain : A → A) (P : A → List Symbol → Type 0) (between : TokenKind) (bytes : List ℕ) → Backs text plain P → Between between bytes → (R : List Symbol → Type 0) (xs : List A) (s : List Symbol) (rest : List ℕ)
    → More P between xs s → Good s → EndsWord rest → Prints R rest → Prints (Fronts plain (More P between) xs R) (flat_map (λ y. bytes ++ text y) xs ++ rest)
back_more text plain P between bytes backs b R [] s rest m g ends p = prints_as (λ s r. ([], [], s, refl, refl, refl, r)) p
back_more {A} text plain P between bytes backs b R (x ∷ xs) s rest (a, c, is, q, m) g ends p =
    let g2 = good_split a c (subst Good is g).1 in
    let others = flat_map (λ y. bytes ++ text y) xs ++ rest in
    let more = back_more text plain P between bytes backs b R xs c rest m g2.1 ends p in
    let first = backs.back (Fronts plain (More P between) xs R) x a others q g2.0 (ends_others text between bytes xs rest b ends) more in
    let whole = b.back (Front plain P x (Fronts plain (More P between) xs R)) (text x ++ others) first in
    rw (append_assoc (bytes ++ text x) (flat_map (λ y. bytes ++ text y) xs) rest, append_assoc bytes (text x) others) (prints_as (λ s h. join s h) whole)
  where
    join : (s : List Symbol) → After (λ _. mark between) (Front plain P x (Fronts plain (More P between) xs R)) s → Fronts plain (More P between) (x ∷ xs) R s
    join s (at, r0, e0, (y, a1, r1, e1, same, py, (ys, a2, r2, e2, others, ms, r))) =
        (y ∷ ys, mark between ∷ (a1 ++ a2), r2, rw (e0, e1, e2) (ap (λ (l : List Symbol). mark between ∷ l) (sym (append_assoc a1 a2 r2))), rw (same, others) refl, (a1, a2, refl, py, ms), r)

-- the text of a list has its symbols again
pub back_listed : {A : Type 0} (text : A → List ℕ) (plain : A → A) (P : A → List Symbol → Type 0) (between : TokenKind) (bytes : List ℕ) → Backs text plain P → Between between bytes → (R : List Symbol → Type 0) (xs : List A) (s : List Symbol) (rest : List ℕ)
    → Listed P between xs s → Good s → EndsWord rest → Prints R rest → Prints (Fronts plain (Listed P between) xs R) (joined bytes text xs ++ rest)
back_listed text plain P between bytes backs b R [] s rest h g ends p = absurd h
back_listed {A} text plain P between bytes backs b R (x ∷ xs) s rest (a, c, is, q, m) g ends p =
    let g2 = good_split a c (subst Good is g) in
    let others = flat_map (λ y. bytes ++ text y) xs ++ rest in
    let more = back_more text plain P between bytes backs b R xs c rest m g2.1 ends p in
    let first = backs.back (Fronts plain (More P between) xs R) x a others q g2.0 (ends_others text between bytes xs rest b ends) more in
    rw (append_assoc (text x) (flat_map (λ y. bytes ++ text y) xs) rest) (prints_as (λ s h. join s h) first)
  where
    join : (s : List Symbol) → Front plain P x (Fronts plain (More P between) xs R) s → Fronts plain (Listed P between) (x ∷ xs) R s
    join s (y, a1, r1, e1, same, py, (ys, a2, r2, e2, others, ms, r)) =
        (y ∷ ys, a1 ++ a2, r2, rw (e1, e2) (sym (append_assoc a1 a2 r2)), rw (same, others) refl, (a1, a2, refl, py, ms), r)

-- the text of a list that may be empty has its symbols again
pub back_maybe : {A : Type 0} (text : A → List ℕ) (plain : A → A) (P : A → List Symbol → Type 0) (between : TokenKind) (bytes : List ℕ) → Backs text plain P → Between between bytes → (R : List Symbol → Type 0) (xs : List A) (s : List Symbol) (rest : List ℕ)
    → Maybe P between xs s → Good s → EndsWord rest → Prints R rest → Prints (Fronts plain (Maybe P between) xs R) (joined bytes text xs ++ rest)
back_maybe text plain P between bytes backs b R [] s rest none g ends p = prints_as (λ s r. ([], [], s, refl, refl, refl, r)) p
back_maybe {A} text plain P between bytes backs b R (x ∷ xs) s rest h g ends p = prints_as (λ s h. join s h) (back_listed text plain P between bytes backs b R (x ∷ xs) s rest h g ends p)
  where
    some : (ys : List A) (a : List Symbol) → Listed P between ys a → Maybe P between ys a
    some [] a h = absurd h
    some (y ∷ ys) a h = h

    join : (s : List Symbol) → Fronts plain (Listed P between) (x ∷ xs) R s → Fronts plain (Maybe P between) (x ∷ xs) R s
    join s (ys, a, r, e, same, h, rest) = (ys, a, r, e, same, some ys a h, rest)

-- ---- marks between

comma : Between Comma (codes ", ")
comma = record { back = λ R rest p. prints_mark Comma 1 (44 ∷ 32 ∷ rest) refl refl (prints_blank 32 refl p); ends = λ rest. refl }

thin_arrow : Between ThinArrow (codes " -> ")
thin_arrow = record { back = λ R rest p. prints_blank 32 refl (prints_mark ThinArrow 2 (45 ∷ 62 ∷ 32 ∷ rest) refl refl (prints_blank 32 refl p)); ends = λ rest. refl }

-- ---- what lists are made of

prints_stars : (R : List Symbol → Type 0) (n : ℕ) (rest : List ℕ) → Prints R rest → Prints (λ s. (left : List Symbol) × (s ≡ stars n ++ left) × R left) (replicate n 42 ++ rest)
prints_stars R zero rest p = prints_as (λ s r. (s, refl, r)) p
prints_stars R (suc n) rest p = prints_as (λ s (at, l, e, (left, e2, r)). (left, rw (e, e2) refl, r)) (prints_mark Star 1 (42 ∷ (replicate n 42 ++ rest)) refl refl (prints_stars R n rest p))

ends_stars : (n : ℕ) (rest : List ℕ) → EndsWord (replicate n 42 ++ 32 ∷ rest)
ends_stars zero rest = refl
ends_stars (suc n) rest = refl

backs_param : Backs param_text bare_param IsParam
backs_param = record { back = λ R p a rest is g ends k. back R p a rest is g ends k }
  where
    join : (R : List Symbol → Type 0) (p : Param) (s : List Symbol) → After (λ at. name (record { text = p.ty.text; at = at })) (λ s. (left : List Symbol) × (s ≡ stars p.stars ++ left) × After (λ at. name (record { text = p.name.text; at = at })) R left) s → Front bare_param IsParam p R s
    join R p s (at, r0, e0, (r1, e1, (at2, r2, e2, r))) =
        let ty : Word = record { text = p.ty.text; at = at } in
        let called : Word = record { text = p.name.text; at = at2 } in
        (record { ty = ty; stars = p.stars; name = called }, name ty ∷ (stars p.stars ++ name called ∷ []), r2, rw (e0, e1, e2) (ap (λ (l : List Symbol). name ty ∷ l) (sym (append_assoc (stars p.stars) (name called ∷ []) r2))), refl, refl, r)

    back : (R : List Symbol → Type 0) (p : Param) (a : List Symbol) (rest : List ℕ) → IsParam p a → Good a → EndsWord rest → Prints R rest → Prints (Front bare_param IsParam p R) (param_text p ++ rest)
    back R p a rest is g ends k =
        let good = subst Good is g in
        let called = (good_split (stars p.stars) (name p.name ∷ []) good.1).1.0 in
        rw (append_assoc p.ty.text (replicate p.stars 42 ++ 32 ∷ p.name.text) rest, append_assoc (replicate p.stars 42) (32 ∷ p.name.text) rest)
        (prints_as (λ s h. join R p s h) (prints_name p.ty.text good.0 (ends_stars p.stars (p.name.text ++ rest)) (prints_stars _ p.stars (32 ∷ (p.name.text ++ rest)) (prints_blank 32 refl (prints_name p.name.text called ends k)))))

word_join : (R : List Symbol → Type 0) (w : Word) (s : List Symbol) → After (λ at. name (record { text = w.text; at = at })) R s → Front bare IsMember w R s
word_join R w s (at, r0, e0, r) = (record { text = w.text; at = at }, name (record { text = w.text; at = at }) ∷ [], r0, e0, refl, refl, r)

backs_member : Backs word_text bare IsMember
backs_member = record { back = λ R w a rest is g ends k. prints_as (λ s h. word_join R w s h) (prints_name w.text (subst Good is g).0 ends k) }

backs_code : Backs word_text bare IsCode
backs_code = record {
  back = λ R w a rest is g ends k.
      prints_as (λ s (at, r0, e0, r). (record { text = w.text; at = at }, digits (record { text = w.text; at = at }) ∷ [], r0, e0, refl, refl, r)) (prints_number w.text (subst Good is g).0 ends k);
}

-- a wildcard that ends is one
wild_front : (rest : List ℕ) → EndsWord rest → front_of (95 ∷ rest) ≡ fronts.Token Wildcard 1
wild_front [] ends = refl
wild_front (b ∷ rest) ends = rw ends refl

backs_pattern : Backs pattern_text (option_map bare) IsPattern
backs_pattern = record { back = λ R x a rest is g ends k. back R x a rest is g ends k }
  where
    back : (R : List Symbol → Type 0) (x : Option Word) (a : List Symbol) (rest : List ℕ) → IsPattern x a → Good a → EndsWord rest → Prints R rest → Prints (Front (option_map bare) IsPattern x R) (pattern_text x ++ rest)
    back R None a rest is g ends k = prints_as (λ s (at, r0, e0, r). (None, mark Wildcard ∷ [], r0, e0, refl, refl, r)) (prints_mark Wildcard 1 (95 ∷ rest) (wild_front rest ends) refl k)
    back R (Some w) a rest is g ends k = prints_as (λ s (at, r0, e0, r). (Some (record { text = w.text; at = at }), name (record { text = w.text; at = at }) ∷ [], r0, e0, refl, refl, r)) (prints_name w.text (subst Good is g).0 ends k)

prints_scope : (R : List Symbol → Type 0) (rest : List ℕ) → Prints R rest → Prints (λ s. (left : List Symbol) × (s ≡ scope ++ left) × R left) (codes "(session)" ++ rest)
prints_scope R rest p =
    prints_as (λ s (at, r0, e0, (at1, r1, e1, (at2, r2, e2, r))). (r2, rw (e0, e1, e2) refl, r))
    (prints_mark OpenParen 1 (codes "(session)" ++ rest) refl refl (prints_mark Session 7 (codes "session)" ++ rest) refl refl (prints_mark CloseParen 1 (41 ∷ rest) refl refl p)))

named_good : (called : Word) (session : Bool) (m a : List Symbol) → IsHeld called session m a → Good a → IsName called.text
named_good called false m a h g = (subst Good h g).0
named_good called true m a (inl h) g = (subst Good h g).0
named_good called true m a (inr h) g = (subst Good h g).0

held_join : (R : List Symbol → Type 0) (called : Word) (mode : Mode) (session : Bool) (m : List Symbol) (at : ℕ) (left s : List Symbol) → IsMark mode m → (a : List Symbol) → IsHeld (record { text = called.text; at = at }) session m a → s ≡ a ++ left → R left
    → Front bare_constraint IsConstraint (record { name = called; mode = mode; session = session }) R s
held_join R called mode session m at left s w a h e r = (record { name = record { text = called.text; at = at }; mode = mode; session = session }, a, left, e, refl, (m, w, h), r)

back_held : (R : List Symbol → Type 0) (called : Word) (mode : Mode) (session : Bool) (rest : List ℕ) → IsName called.text → EndsWord rest → Prints R rest
    → Prints (Front bare_constraint IsConstraint (record { name = called; mode = mode; session = session }) R) (called.text ++ (mode_text mode ++ (scope_text session ++ rest)))
back_held R called Reader false rest g ends p =
    prints_as (λ s (at, r0, e0, (at1, r1, e1, r)). held_join R called Reader false (mark Question ∷ []) at r1 s refl (name (record { text = called.text; at = at }) ∷ mark Question ∷ []) refl (rw (e0, e1) refl) r)
    (prints_name called.text g refl (prints_mark Question 1 (63 ∷ rest) refl refl p))
back_held R called Reader true rest g ends p =
    prints_as (λ s (at, r0, e0, (at1, r1, e1, (r2, e2, r))). held_join R called Reader true (mark Question ∷ []) at r2 s refl (name (record { text = called.text; at = at }) ∷ mark Question ∷ scope) (inl refl) (rw (e0, e1, e2) refl) r)
    (prints_name called.text g refl (prints_mark Question 1 (63 ∷ (codes "(session)" ++ rest)) refl refl (prints_scope R rest p)))
back_held R called Writer false rest g ends p =
    prints_as (λ s (at, r0, e0, r). held_join R called Writer false [] at r0 s (inl refl) (name (record { text = called.text; at = at }) ∷ []) refl e0 r) (prints_name called.text g ends p)
back_held R called Writer true rest g ends p =
    prints_as (λ s (at, r0, e0, (r1, e1, r)). held_join R called Writer true [] at r1 s (inl refl) (name (record { text = called.text; at = at }) ∷ scope) (inl refl) (rw (e0, e1) refl) r)
    (prints_name called.text g refl (prints_scope R rest p))

backs_constraint : Backs constraint_text bare_constraint IsConstraint
backs_constraint = record {
  back = λ R c a rest h g ends p.
      rw (append_assoc c.name.text (mode_text c.mode ++ scope_text c.session) rest, append_assoc (mode_text c.mode) (scope_text c.session) rest) (back_held R c.name c.mode c.session rest (named_good c.name c.session h.0 a h.2 g) ends p);
}

-- ---- parts of lines

abbrev word_at : Word → ℕ → Word
word_at w at = record { text = w.text; at = at }

back_params : (R : List Symbol → Type 0) (params : List Param) (a : List Symbol) (rest : List ℕ) → AreParams params a → Good a → Prints R rest → Prints (Fronts bare_param AreParams params R) (params_text params ++ rest)
back_params R params a rest (b, is, ps) g p =
    let good = (good_split b (mark CloseParen ∷ []) (subst Good is g).1).0 in
    rw (append_assoc (joined (codes ", ") param_text params) (codes ")") rest)
    (prints_as (λ s (at, r0, e0, (qs, c, r1, e1, same, ms, (at2, r2, e2, r))). (qs, mark OpenParen ∷ (c ++ mark CloseParen ∷ []), r2, rw (e0, e1, e2) (ap (λ (l : List Symbol). mark OpenParen ∷ l) (sym (append_assoc c (mark CloseParen ∷ []) r2))), same, (c, refl, ms), r))
    (prints_mark OpenParen 1 (40 ∷ (joined (codes ", ") param_text params ++ 41 ∷ rest)) refl refl
    (back_maybe param_text bare_param IsParam Comma (codes ", ") backs_param comma _ params b (41 ∷ rest) ps good refl (prints_mark CloseParen 1 (41 ∷ rest) refl refl p))))

abbrev FrontPatterns : Option (List (Option Word)) → (List Symbol → Type 0) → List Symbol → Type 0
FrontPatterns patterns R s = (others : Option (List (Option Word))) × (a rest : List Symbol) × (s ≡ a ++ rest) × (option_map (map (option_map bare)) others ≡ option_map (map (option_map bare)) patterns) × ArePatterns others a × R rest

back_patterns : (R : List Symbol → Type 0) (patterns : Option (List (Option Word))) (a : List Symbol) (rest : List ℕ) → ArePatterns patterns a → Good a → Prints R rest → Prints (FrontPatterns patterns R) (patterns_text patterns ++ rest)
back_patterns R None a rest none g p = prints_as (λ s r. (None, [], s, refl, refl, refl, r)) p
back_patterns R (Some patterns) a rest (b, is, ps) g p =
    let good = (good_split b (mark CloseBracket ∷ []) (subst Good is g).1.1).0 in
    rw (append_assoc (joined (codes ", ") pattern_text patterns) (codes "]") rest)
    (prints_as (λ s (at, r0, e0, (at1, r1, e1, (qs, c, r2, e2, same, ms, (at3, r3, e3, r)))). (Some qs, mark Colon ∷ mark OpenBracket ∷ (c ++ mark CloseBracket ∷ []), r3, rw (e0, e1, e2, e3) (ap (λ (l : List Symbol). mark Colon ∷ mark OpenBracket ∷ l) (sym (append_assoc c (mark CloseBracket ∷ []) r3))), ap Some same, (c, refl, ms), r))
    (prints_mark Colon 1 (58 ∷ 91 ∷ (joined (codes ", ") pattern_text patterns ++ 93 ∷ rest)) refl refl (prints_mark OpenBracket 1 (91 ∷ (joined (codes ", ") pattern_text patterns ++ 93 ∷ rest)) refl refl
    (back_listed pattern_text (option_map bare) IsPattern Comma (codes ", ") backs_pattern comma _ patterns b (93 ∷ rest) ps good refl (prints_mark CloseBracket 1 (93 ∷ rest) refl refl p)))))

abbrev FrontCodes : List Word → (List Symbol → Type 0) → List Symbol → Type 0
FrontCodes numbers R s = Fronts bare AreCodes numbers R s

back_codes : (R : List Symbol → Type 0) (numbers : List Word) (a : List Symbol) (rest : List ℕ) → AreCodes numbers a → Good a → Prints R rest → Prints (FrontCodes numbers R) (codes_text numbers ++ rest)
back_codes R [] a rest none g p = prints_as (λ s r. ([], [], s, refl, refl, refl, r)) p
back_codes R (number ∷ numbers) a rest (b, is, ps) g p =
    let good = (good_split b (mark CloseParen ∷ []) (subst Good is g).1.1).0 in
    let list = joined (codes ", ") word_text (number ∷ numbers) in
    rw (append_assoc list (codes ")") rest)
    (prints_as (λ s (at, r0, e0, (at1, r1, e1, (qs, c, r2, e2, same, ms, (at3, r3, e3, r)))). (qs, mark Colon ∷ mark OpenParen ∷ (c ++ mark CloseParen ∷ []), r3, rw (e0, e1, e2, e3) (ap (λ (l : List Symbol). mark Colon ∷ mark OpenParen ∷ l) (sym (append_assoc c (mark CloseParen ∷ []) r3))), same, some qs c ms, r))
    (prints_mark Colon 1 (58 ∷ 40 ∷ (list ++ 41 ∷ rest)) refl refl (prints_mark OpenParen 1 (40 ∷ (list ++ 41 ∷ rest)) refl refl
    (back_listed word_text bare IsCode Comma (codes ", ") backs_code comma _ (number ∷ numbers) b (41 ∷ rest) ps good refl (prints_mark CloseParen 1 (41 ∷ rest) refl refl p)))))
  where
    some : (qs : List Word) (c : List Symbol) → Listed IsCode Comma qs c → AreCodes qs (mark Colon ∷ mark OpenParen ∷ (c ++ mark CloseParen ∷ []))
    some [] c none = absurd none
    some (q ∷ qs) c listed = (c, refl, listed)

prints_stop : (R : List Symbol → Type 0) (rest : List ℕ) → Prints R rest → Prints (After (λ _. mark Semicolon) R) (codes ";\n" ++ rest)
prints_stop R rest p = prints_mark Semicolon 1 (59 ∷ 10 ∷ rest) refl refl (prints_blank 10 refl p)

prints_arrow : (R : List Symbol → Type 0) (rest : List ℕ) → Prints R rest → Prints (After (λ _. mark Arrow) R) (codes " => " ++ rest)
prints_arrow R rest p = prints_blank 32 refl (prints_mark Arrow 2 (61 ∷ 62 ∷ 32 ∷ rest) refl refl (prints_blank 32 refl p))

-- ---- lines

abbrev BackLine : Decl → Type 1
BackLine d = (R : List Symbol → Type 0) (a : List Symbol) (rest : List ℕ) → IsDeclaration d a → Good a → Prints R rest → Prints (Front bare_decl IsDeclaration d R) (line_of d ++ rest)

back_source : (called target : Word) → BackLine (decl.Source called target)
back_source called target R a rest is g p = let good = subst Good is g in
    rw (append_assoc called.text (codes " => " ++ (target.text ++ codes ";\n")) rest, append_assoc target.text (codes ";\n") rest)
    (prints_as (λ s (at, r0, e0, (at1, r1, e1, (at2, r2, e2, (at3, r3, e3, (at4, r4, e4, r))))). (decl.Source (word_at called at1) (word_at target at3), mark Source ∷ name (word_at called at1) ∷ mark Arrow ∷ name (word_at target at3) ∷ mark Semicolon ∷ [], r4, rw (e0, e1, e2, e3, e4) refl, refl, refl, r))
    (prints_mark Source 6 (codes "source " ++ (called.text ++ (codes " => " ++ (target.text ++ (codes ";\n" ++ rest))))) refl refl (prints_blank 32 refl
    (prints_name called.text good.1.0 refl (prints_arrow _ (target.text ++ (codes ";\n" ++ rest)) (prints_name target.text good.1.1.1.0 refl (prints_stop R rest p)))))))

back_typedef : (called function : Word) → BackLine (decl.Typedef called function)
back_typedef called function R a rest is g p = let good = subst Good is g in
    rw (append_assoc called.text (codes " " ++ (function.text ++ codes ";\n")) rest, append_assoc function.text (codes ";\n") rest)
    (prints_as (λ s (at, r0, e0, (at1, r1, e1, (at3, r3, e3, (at4, r4, e4, r)))). (decl.Typedef (word_at called at1) (word_at function at3), mark Typedef ∷ name (word_at called at1) ∷ name (word_at function at3) ∷ mark Semicolon ∷ [], r4, rw (e0, e1, e3, e4) refl, refl, refl, r))
    (prints_mark Typedef 7 (codes "typedef " ++ (called.text ++ (codes " " ++ (function.text ++ (codes ";\n" ++ rest))))) refl refl (prints_blank 32 refl
    (prints_name called.text good.1.0 refl (prints_blank 32 refl (prints_name function.text good.1.1.0 refl (prints_stop R rest p)))))))

ends_codes : (numbers : List Word) (rest : List ℕ) → EndsWord (codes_text numbers ++ 32 ∷ rest)
ends_codes [] rest = refl
ends_codes (number ∷ numbers) rest = refl

back_handler : (node : Word) (numbers : List Word) (handler : Word) → BackLine (decl.Handler node numbers handler)
back_handler node numbers handler R a rest (b, is, cs) g p =
    let good = subst Good is g in
    let first = good_split b (mark Arrow ∷ name handler ∷ mark Semicolon ∷ []) good.1.1.1 in
    let after = codes " => " ++ (handler.text ++ (codes ";\n" ++ rest)) in
    rw (append_assoc node.text (codes_text numbers ++ (codes " => " ++ (handler.text ++ codes ";\n"))) rest, append_assoc (codes_text numbers) (codes " => " ++ (handler.text ++ codes ";\n")) rest, append_assoc handler.text (codes ";\n") rest)
    (prints_as (λ s (at, r0, e0, (at5, r5, e5, (at1, r1, e1, (qs, d, r6, e6, same, ms, (at2, r2, e2, (at3, r3, e3, (at4, r4, e4, r))))))). (
      decl.Handler (word_at node at1) qs (word_at handler at3),
      mark Handle ∷ mark Error ∷ name (word_at node at1) ∷ (d ++ mark Arrow ∷ name (word_at handler at3) ∷ mark Semicolon ∷ []),
      r4,
      rw (e0, e5, e1, e6, e2, e3, e4) (ap (λ (l : List Symbol). mark Handle ∷ mark Error ∷ name (word_at node at1) ∷ l) (sym (append_assoc d (mark Arrow ∷ name (word_at handler at3) ∷ mark Semicolon ∷ []) r4))),
      ap (λ (l : List Word). decl.Handler (bare node) l (bare handler)) same,
      (d, refl, ms),
      r,
    ))
    (prints_mark Handle 6 (codes "handle error " ++ (node.text ++ (codes_text numbers ++ after))) refl refl (prints_blank 32 refl
    (prints_mark Error 5 (codes "error " ++ (node.text ++ (codes_text numbers ++ after))) refl refl (prints_blank 32 refl
    (prints_name node.text good.1.1.0 (ends_codes numbers (codes "=> " ++ (handler.text ++ (codes ";\n" ++ rest)))) (back_codes _ numbers b after cs first.0
    (prints_arrow _ (handler.text ++ (codes ";\n" ++ rest)) (prints_name handler.text first.1.1.0 refl (prints_stop R rest p))))))))))

back_session : (source function : Word) → BackLine (decl.Session source function)
back_session source function R a rest is g p = let good = subst Good is g in
    rw (append_assoc source.text (codes " => " ++ (function.text ++ codes ";\n")) rest, append_assoc function.text (codes ";\n") rest)
    (prints_as (λ s (at, r0, e0, (at1, r1, e1, (at2, r2, e2, (at3, r3, e3, (at4, r4, e4, r))))). (decl.Session (word_at source at1) (word_at function at3), mark Session ∷ name (word_at source at1) ∷ mark Arrow ∷ name (word_at function at3) ∷ mark Semicolon ∷ [], r4, rw (e0, e1, e2, e3, e4) refl, refl, refl, r))
    (prints_mark Session 7 (codes "session " ++ (source.text ++ (codes " => " ++ (function.text ++ (codes ";\n" ++ rest))))) refl refl (prints_blank 32 refl
    (prints_name source.text good.1.0 refl (prints_arrow _ (function.text ++ (codes ";\n" ++ rest)) (prints_name function.text good.1.1.1.0 refl (prints_stop R rest p)))))))

back_atomic : (node : Word) (constraints : List Constraint) → BackLine (decl.Atomic node constraints)
back_atomic node constraints R a rest (b, is, cs) g p =
    let good = subst Good is g in
    let inner = (good_split b (mark CloseBrace ∷ mark Semicolon ∷ []) good.1.1.1.1).0 in
    let list = joined (codes ", ") constraint_text constraints in
    rw (append_assoc node.text (codes ":{" ++ (list ++ codes "};\n")) rest, append_assoc list (codes "};\n") rest)
    (prints_as (λ s (at, r0, e0, (at1, r1, e1, (at2, r2, e2, (at3, r3, e3, (others, c, r4, e4, same, ms, (at5, r5, e5, (at6, r6, e6, r))))))). (
      decl.Atomic (word_at node at1) others,
      mark Atomic ∷ name (word_at node at1) ∷ mark Colon ∷ mark OpenBrace ∷ (c ++ mark CloseBrace ∷ mark Semicolon ∷ []),
      r6,
      rw (e0, e1, e2, e3, e4, e5, e6) (ap (λ (l : List Symbol). mark Atomic ∷ name (word_at node at1) ∷ mark Colon ∷ mark OpenBrace ∷ l) (sym (append_assoc c (mark CloseBrace ∷ mark Semicolon ∷ []) r6))),
      ap (decl.Atomic (bare node)) same,
      (c, refl, ms),
      r,
    ))
    (prints_mark Atomic 6 (codes "atomic " ++ (node.text ++ (codes ":{" ++ (list ++ (codes "};\n" ++ rest))))) refl refl (prints_blank 32 refl
    (prints_name node.text good.1.0 refl (prints_mark Colon 1 (codes ":{" ++ (list ++ (codes "};\n" ++ rest))) refl refl (prints_mark OpenBrace 1 (codes "{" ++ (list ++ (codes "};\n" ++ rest))) refl refl
    (back_listed constraint_text bare_constraint IsConstraint Comma (codes ", ") backs_constraint comma _ constraints b (codes "};\n" ++ rest) cs inner refl
    (prints_mark CloseBrace 1 (codes "};\n" ++ rest) refl refl (prints_stop R rest p)))))))))

back_signature : (called : Word) (ins outs : List Param) → BackLine (decl.Signature called ins outs)
back_signature called ins outs R a rest (b, c, is, bs, cs) g p =
    let good = subst Good is g in
    let first = good_split b (mark Arrow ∷ (c ++ mark Semicolon ∷ [])) good.1 in
    let second = good_split c (mark Semicolon ∷ []) first.1.1 in
    rw (append_assoc called.text (codes " " ++ (params_text ins ++ (codes " => " ++ (params_text outs ++ codes ";\n")))) rest, append_assoc (params_text ins) (codes " => " ++ (params_text outs ++ codes ";\n")) rest, append_assoc (params_text outs) (codes ";\n") rest)
    (prints_as (λ s (at, r0, e0, (qs, d, r1, e1, same, ms, (at2, r2, e2, (rs, f, r3, e3, same2, ns, (at4, r4, e4, r))))). (
      decl.Signature (word_at called at) qs rs,
      name (word_at called at) ∷ (d ++ mark Arrow ∷ (f ++ mark Semicolon ∷ [])),
      r4,
      rw (e0, e1, e2, e3, e4, append_assoc d (mark Arrow ∷ (f ++ mark Semicolon ∷ [])) r4, append_assoc f (mark Semicolon ∷ []) r4) refl,
      rw (same, same2) refl,
      (d, f, refl, ms, ns),
      r,
    ))
    (prints_name called.text good.0 refl (prints_blank 32 refl (back_params _ ins b (codes " => " ++ (params_text outs ++ (codes ";\n" ++ rest))) bs first.0
    (prints_arrow _ (params_text outs ++ (codes ";\n" ++ rest)) (back_params _ outs c (codes ";\n" ++ rest) cs second.0 (prints_stop R rest p)))))))

ends_patterns : (patterns : Option (List (Option Word))) (rest : List ℕ) → EndsWord (patterns_text patterns ++ 32 ∷ rest)
ends_patterns None rest = refl
ends_patterns (Some patterns) rest = refl

back_flow : (called : Word) (patterns : Option (List (Option Word))) (members : List Word) → BackLine (decl.Flow called patterns members)
back_flow called patterns members R a rest (b, c, is, bs, cs) g p =
    let good = subst Good is g in
    let first = good_split b (mark Equals ∷ (c ++ mark Semicolon ∷ [])) good.1 in
    let second = good_split c (mark Semicolon ∷ []) first.1.1 in
    rw (append_assoc called.text (patterns_text patterns ++ (codes " = " ++ (members_text members ++ codes ";\n"))) rest, append_assoc (patterns_text patterns) (codes " = " ++ (members_text members ++ codes ";\n")) rest, append_assoc (members_text members) (codes ";\n") rest)
    (prints_as (λ s (at, r0, e0, (qs, d, r1, e1, same, ms, (at2, r2, e2, (rs, f, r3, e3, same2, ns, (at4, r4, e4, r))))). (
      decl.Flow (word_at called at) qs rs,
      name (word_at called at) ∷ (d ++ mark Equals ∷ (f ++ mark Semicolon ∷ [])),
      r4,
      rw (e0, e1, e2, e3, e4, append_assoc d (mark Equals ∷ (f ++ mark Semicolon ∷ [])) r4, append_assoc f (mark Semicolon ∷ []) r4) refl,
      rw (same, same2) refl,
      (d, f, refl, ms, ns),
      r,
    ))
    (prints_name called.text good.0 (ends_patterns patterns (codes "= " ++ (members_text members ++ (codes ";\n" ++ rest)))) (back_patterns _ patterns b (codes " = " ++ (members_text members ++ (codes ";\n" ++ rest))) bs first.0
    (prints_blank 32 refl (prints_mark Equals 1 (codes "= " ++ (members_text members ++ (codes ";\n" ++ rest))) refl refl (prints_blank 32 refl
    (back_maybe word_text bare IsMember ThinArrow (codes " -> ") backs_member thin_arrow _ members c (codes ";\n" ++ rest) cs second.0 refl (prints_stop R rest p))))))))

-- the line of a declaration has it again
pub back_line : (d : Decl) → BackLine d
back_line (decl.Signature called ins outs) = back_signature called ins outs
back_line (decl.Flow called patterns members) = back_flow called patterns members
back_line (decl.Source called target) = back_source called target
back_line (decl.Typedef called function) = back_typedef called function
back_line (decl.Handler node numbers handler) = back_handler node numbers handler
back_line (decl.Atomic node constraints) = back_atomic node constraints
back_line (decl.Session source function) = back_session source function

-- ---- all lines

-- the lines of declarations have them again
pub back_all : (decls : List Decl) (s : List Symbol) → IsProgram decls s → Good s → Prints (λ t. (others : List Decl) × (map bare_decl others ≡ map bare_decl decls) × IsProgram others t) (formatted decls)
back_all [] s none g = prints_end ([], refl, refl)
back_all (d ∷ decls) s (a, b, is, h, more) g =
    let both = good_split a b (subst Good is g) in
    prints_as (λ t (y, c, rest, e, same, py, (others, alike, program)). (y ∷ others, rw (same, alike) refl, (c, rest, e, py, program)))
    (back_line d (λ t. (others : List Decl) × (map bare_decl others ≡ map bare_decl decls) × IsProgram others t) a (formatted decls) h both.0 (back_all decls b more both.1))
