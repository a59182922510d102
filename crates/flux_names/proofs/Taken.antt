-- Codes that nodes have, by a table and by the numbers before.
use Rattle.std.proofs.Common.{◌≡◌, ℕ, ◌||◌, ◌&&◌, Bool, true, false, List, [], ◌∷◌, ◌++◌, Option, Some, None, refl, sym, ap, ◌∙◌}
use Rattle.std.specs.Bool.{◌==◌}
use Rattle.std.specs.List.{list_any}
use Rattle.std.specs.Str.{bytes_eq}
use Rattle.std.proofs.lemmas.Bool.{eqb-true, and_parts}
use Rattle.std.proofs.lemmas.List.Folds.{list_any-append}
use Rattle.std.proofs.lemmas.List.{append_assoc}
use Rattle.std.proofs.lemmas.Slice.Eq.{bytes_eq-Decides}
use Rattle.std.proofs.Math.Bool.{or-false}
use Rattle.flux_syntax.proofs.Found.{absorbed, any_same}
use Rattle.flux_syntax.specs.declared.declarations.Word.{Word}
use Rattle.flux_names.specs.Rows.{CodeOn, code_of, word_if, is_same_code, is_taken_by, is_bad_code, bad_codes_after}
use Rattle.flux_names.specs.steps.Codes.{Taken, has_code, is_bad_by, with_code, and_code, and_codes, bad_codes_by}

-- the numbers before are one of a node that is this code
abbrev have : List CodeOn → List ℕ → ℕ → Bool
have before node code = list_any (λ b. bytes_eq node b.node.text && is_same_code (Some code) (code_of b.number.text)) before

-- a code of one more number
abbrev is_that : List ℕ → ℕ → List ℕ → Option ℕ → Bool
is_that node code other number = bytes_eq node other && is_same_code (Some code) number

has_of_same : (taken : Taken) (node other : List ℕ) (code : ℕ) → bytes_eq node other ≡ true → has_code taken node code ≡ has_code taken other code
has_of_same taken node other code e = ap (λ (n : List ℕ). has_code taken n code) ((bytes_eq-Decides node other).0 e)

-- one code more
has_more : (taken : Taken) (other : List ℕ) (number : Option ℕ) (node : List ℕ) (code : ℕ) → has_code (with_code taken other number) node code ≡ (has_code taken node code || is_that node code other number)
has_more taken other None node code = none (bytes_eq node other)
  where
    none : (b : Bool) → has_code taken node code ≡ (has_code taken node code || (b && false))
    none true = sym (or-false (has_code taken node code))
    none false = sym (or-false (has_code taken node code))
has_more taken other (Some new) node code = one (has_code taken other new) refl
  where
    one : (t : Bool) → has_code taken other new ≡ t → has_code (with_code taken other (Some new)) node code ≡ (has_code taken node code || is_that node code other (Some new))
    one true e = rw e (absorbed (has_code taken node code) (is_that node code other (Some new)) (λ both.
        let parts = and_parts (bytes_eq node other) (code == new) both in
        let name : node ≡ other = (bytes_eq-Decides node other).0 parts.0 in
        let same : code ≡ new = eqb-true code new parts.1 in
        rw (name, same, e) refl))
    one false e =
        rw e (list_any-append (λ k. bytes_eq node k.0 && (code == k.1)) taken ((other, new) ∷ [])
        ∙ ap (λ (b : Bool). has_code taken node code || b) (or-false (bytes_eq node other && (code == new))))

bad_here : (taken : Taken) (before : List CodeOn) (c : CodeOn) → ((node : List ℕ) (code : ℕ) → has_code taken node code ≡ have before node code) → is_bad_by taken c ≡ is_bad_code before c
bad_here taken before c same = one (code_of c.number.text) refl
  where
    one : (number : Option ℕ) → code_of c.number.text ≡ number → is_bad_by taken c ≡ is_bad_code before c
    one None e = rw e refl
    one (Some code) e =
        let here : have before c.node.text code ≡ list_any (is_taken_by c) before = any_same (λ (b : CodeOn). bytes_eq c.node.text b.node.text && is_same_code (Some code) (code_of b.number.text)) (is_taken_by c) (λ b. rw e refl) before in
        rw e (same c.node.text code ∙ here)

bad_from : (taken : Taken) (before codes : List CodeOn) → ((node : List ℕ) (code : ℕ) → has_code taken node code ≡ have before node code) → bad_codes_by taken codes ≡ bad_codes_after before codes
bad_from taken before [] same = refl
bad_from taken before (c ∷ codes) same =
    ap (λ (b : Bool). word_if b c.number ++ bad_codes_by (and_code taken c) codes) (bad_here taken before c same)
    ∙ ap (λ (l : List Word). word_if (is_bad_code before c) c.number ++ l) (bad_from (and_code taken c) (before ++ c ∷ []) codes more)
  where
    more : (node : List ℕ) (code : ℕ) → has_code (and_code taken c) node code ≡ have (before ++ c ∷ []) node code
    more node code =
        has_more taken c.node.text (code_of c.number.text) node code
        ∙ ap (λ (b : Bool). b || is_that node code c.node.text (code_of c.number.text)) (same node code)
        ∙ ap (λ (b : Bool). have before node code || b) (sym (or-false (is_that node code c.node.text (code_of c.number.text))))
        ∙ sym (list_any-append (λ (b : CodeOn). bytes_eq node b.node.text && is_same_code (Some code) (code_of b.number.text)) before (c ∷ []))

-- the numbers that a table finds bad are those that are no code, or stood before
pub bad_codes_are : (codes : List CodeOn) → bad_codes_by [] codes ≡ bad_codes_after [] codes
bad_codes_are codes = bad_from [] [] codes (λ node code. refl)

pub bad_append : (taken : Taken) (first second : List CodeOn) → bad_codes_by taken (first ++ second) ≡ bad_codes_by taken first ++ bad_codes_by (and_codes taken first) second
bad_append taken [] second = refl
bad_append taken (c ∷ first) second =
    let own = word_if (is_bad_by taken c) c.number in
    ap (λ (l : List Word). own ++ l) (bad_append (and_code taken c) first second)
    ∙ sym (append_assoc own (bad_codes_by (and_code taken c) first) (bad_codes_by (and_codes (and_code taken c) first) second))
