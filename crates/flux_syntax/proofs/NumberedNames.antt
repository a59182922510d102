-- The names of nodes are those of their first naming lines, and each is there once, at its number.
use Rattle.std.proofs.Common.{◌≡◌, ◌+◌, ◌<◌, ℕ, zero, suc, Bool, true, false, ◌||◌, not, cond, if◌then◌else◌, List, [], ◌∷◌, ◌++◌, length, map, Option, Some, None, refl, sym, ap, subst, ◌∙◌, arith, length-append}
use Rattle.std.specs.List.{slice_get, position_or_len}
use Rattle.std.specs.Str.{bytes_eq}
use Rattle.std.proofs.lemmas.List.{append_assoc, append-nil}
use Rattle.std.proofs.lemmas.Slice.Eq.{bytes_eq-Decides}
use Rattle.flux_syntax.specs.declared.declarations.Word.{Word}
use Rattle.flux_syntax.specs.declared.declarations.Decl.{Decl}
use Rattle.flux_syntax.specs.Words.{known, naming, and_name, names_after, names_of, unless_known, first_words_after, first_words}

-- the texts of words
abbrev pub texts : List Word → List (List ℕ)
texts words = map (λ word. word.text) words

abbrev Firsts : List Decl → Type 0
Firsts decls = (names : List (List ℕ)) → names_after names decls ≡ names ++ texts (first_words_after names decls)

firsts : (decls : List Decl) → Firsts decls
firsts [] names = sym (append-nil names)
firsts (d ∷ decls) names = one (naming d) (firsts decls)
  where
    named : (word : Word) (t : Bool) → Firsts decls
        → names_after (if t then names else names ++ word.text ∷ []) decls ≡ names ++ texts ((if t then [] else word ∷ []) ++ first_words_after (if t then names else names ++ word.text ∷ []) decls)
    named word true all = all names
    named word false all = all (names ++ word.text ∷ []) ∙ append_assoc names (word.text ∷ []) (texts (first_words_after (names ++ word.text ∷ []) decls))

    one : (found : Option Word) → Firsts decls → names_after (and_name names found) decls ≡ names ++ texts (unless_known names found ++ first_words_after (and_name names found) decls)
    one None all = all names
    one (Some word) all = named word (known names word.text) all

-- the names of nodes are those of their first naming lines
pub names_are_first : (decls : List Decl) → names_of decls ≡ texts (first_words decls)
names_are_first decls = firsts decls []

-- ---- each is there once

-- none of these names is among those before it
abbrev Apart : List (List ℕ) → List (List ℕ) → Type 0
Apart before [] = Unit {0}
Apart before (name ∷ names) = (known before name ≡ false) × Apart (before ++ name ∷ []) names

abbrev AreApart : List Decl → Type 0
AreApart decls = (names : List (List ℕ)) → Apart names (texts (first_words_after names decls))

apart : (decls : List Decl) → AreApart decls
apart [] names = tt
apart (d ∷ decls) names = one (naming d) (apart decls)
  where
    named : (word : Word) (t : Bool) → known names word.text ≡ t → AreApart decls → Apart names (texts ((if t then [] else word ∷ []) ++ first_words_after (if t then names else names ++ word.text ∷ []) decls))
    named word true e all = all names
    named word false e all = (e, all (names ++ word.text ∷ []))

    one : (found : Option Word) → AreApart decls → Apart names (texts (unless_known names found ++ first_words_after (and_name names found) decls))
    one None all = all names
    one (Some word) all = named word (known names word.text) refl all

position_past : (before names : List (List ℕ)) (wanted : List ℕ) → known before wanted ≡ false → position_or_len (bytes_eq wanted) (before ++ names) ≡ length before + position_or_len (bytes_eq wanted) names
position_past [] names wanted e = omega arith
position_past (b ∷ before) names wanted e = one (bytes_eq wanted b) e (position_past before names wanted)
  where
    one : (t : Bool) → (t || known before wanted) ≡ false → (known before wanted ≡ false → position_or_len (bytes_eq wanted) (before ++ names) ≡ length before + position_or_len (bytes_eq wanted) names)
        → cond (not t) (1 + position_or_len (bytes_eq wanted) (before ++ names)) 0 ≡ suc (length before) + position_or_len (bytes_eq wanted) names
    one true e more = absurd cc
    one false e more = let same = more e in omega (arith, same)

place_past : (before names : List (List ℕ)) (number : ℕ) (name wanted : List ℕ) → Apart before names → slice_get names number ≡ Some name → bytes_eq wanted name ≡ true
    → position_or_len (bytes_eq wanted) (before ++ names) ≡ length before + number
place_past before [] number name wanted all at e = absurd cc
place_past before (n ∷ names) zero name wanted all at e =
    let own : n ≡ name = cc in
    let same : wanted ≡ name = (bytes_eq-Decides wanted name).0 e in
    let first : bytes_eq wanted n ≡ true = ap (bytes_eq wanted) own ∙ e in
    let none : known before wanted ≡ false = ap (known before) (same ∙ sym own) ∙ all.0 in
    position_past before (n ∷ names) wanted none ∙ ap (λ (t : Bool). length before + cond (not t) (1 + position_or_len (bytes_eq wanted) names) 0) first
place_past before (n ∷ names) (suc number) name wanted all at e =
    let more = place_past (before ++ n ∷ []) names number name wanted all.1 at e in
    ap (position_or_len (bytes_eq wanted)) (sym (append_assoc before (n ∷ []) names)) ∙ more ∙ (let many = length-append before (n ∷ []) in omega (arith, many))

-- a name's place is the number of the node that has it
pub place_at : (decls : List Decl) (number : ℕ) (name wanted : List ℕ) → slice_get (names_of decls) number ≡ Some name → bytes_eq wanted name ≡ true → position_or_len (bytes_eq wanted) (names_of decls) ≡ number
place_at decls number name wanted at e =
    let firsts_at : slice_get (texts (first_words decls)) number ≡ Some name = ap (λ (l : List (List ℕ)). slice_get l number) (sym (names_are_first decls)) ∙ at in
    ap (position_or_len (bytes_eq wanted)) (names_are_first decls) ∙ place_past [] (texts (first_words decls)) number name wanted (apart decls []) firsts_at e ∙ omega arith

-- a known name has a place
pub known_at : (names : List (List ℕ)) (wanted : List ℕ) → known names wanted ≡ true → slice_get names (position_or_len (bytes_eq wanted) names) ≡ Some wanted
known_at [] wanted e = absurd cc
known_at (n ∷ names) wanted e = one (bytes_eq wanted n) refl e (known_at names wanted)
  where
    one : (t : Bool) → bytes_eq wanted n ≡ t → (t || known names wanted) ≡ true → (known names wanted ≡ true → slice_get names (position_or_len (bytes_eq wanted) names) ≡ Some wanted)
        → slice_get (n ∷ names) (cond (not t) (1 + position_or_len (bytes_eq wanted) names) 0) ≡ Some wanted
    one true i e more = ap Some (sym ((bytes_eq-Decides wanted n).0 i))
    one false i e more =
        let place = position_or_len (bytes_eq wanted) names in
        ap (slice_get (n ∷ names)) (let same : 1 + place ≡ suc place = omega arith in same) ∙ more e

-- what has a place among names is known
pub known_within : (names : List (List ℕ)) (wanted : List ℕ) → position_or_len (bytes_eq wanted) names < length names → known names wanted ≡ true
known_within [] wanted below = absurd (omega (arith, below))
known_within (n ∷ names) wanted below = one (bytes_eq wanted n) below (known_within names wanted)
  where
    one : (t : Bool) → cond (not t) (1 + position_or_len (bytes_eq wanted) names) 0 < suc (length names) → (position_or_len (bytes_eq wanted) names < length names → known names wanted ≡ true)
        → (t || known names wanted) ≡ true
    one true below more = refl
    one false below more = more (omega (arith, below))
