-- Fronts of bytes that pass a test.
use Rattle.std.proofs.Common.{◌≡◌, ℕ, ◌+◌, ◌-◌, ◌<◌, ◌≤◌, Bool, true, false, ◌||◌, if◌then◌else◌, List, [], ◌∷◌, ◌++◌, length, length-append, take, drop, get_or, refl, sym, ap, ◌∙◌, arith}
use Rattle.std.proofs.Math.Seq.{take-append-add}
use Rattle.std.proofs.lemmas.List.{take_more, drop_more, take_at, take_all, append-nil, drop-append-le}
use Rattle.std.proofs.lemmas.Bool.{and_left, and_right}
use lib.Pointwise.{pointwise}
use Rattle.std.specs.Prelude.{nat_eq}
use Rattle.std.specs.List.{ends_with}
use Rattle.flux_doors.specs.declared.framing.Framing.{Framing}
use Rattle.flux_doors.specs.declared.framing.Framing.TheVariants.{Head, Line}
use Rattle.flux_doors.specs.Texts.{ends, empty_line_cr, grown, least_front, has_front, trimmed, limit_of, text_of}

-- where nothing passes yet, one byte more is looked at
pub grown-more : (test : List ℕ → Bool) (bytes : List ℕ) (n : ℕ) → n < length bytes → test (take n bytes) ≡ false → grown test (take n bytes) (drop n bytes) ≡ grown test (take (n + 1) bytes) (drop (n + 1) bytes)
grown-more test bytes n below fails =
    ap (grown test (take n bytes)) (drop_more bytes n 0 below)
    ∙ ap (λ t. if t then take n bytes else grown test (take n bytes ++ get_or bytes n 0 ∷ []) (drop (n + 1) bytes)) fails
    ∙ ap (λ l. grown test l (drop (n + 1) bytes)) (sym (take_more bytes n 0 below))

pub has-more : (test : List ℕ → Bool) (bytes : List ℕ) (n : ℕ) → n < length bytes → test (take n bytes) ≡ false → has_front test (take n bytes) (drop n bytes) ≡ has_front test (take (n + 1) bytes) (drop (n + 1) bytes)
has-more test bytes n below fails =
    ap (has_front test (take n bytes)) (drop_more bytes n 0 below)
    ∙ ap (λ t. t || has_front test (take n bytes ++ get_or bytes n 0 ∷ []) (drop (n + 1) bytes)) fails
    ∙ ap (λ l. has_front test l (drop (n + 1) bytes)) (sym (take_more bytes n 0 below))

-- a front that passes is the least one after those that were looked at
pub grown-found : (test : List ℕ → Bool) (seen bytes : List ℕ) → test seen ≡ true → grown test seen bytes ≡ seen
grown-found test seen [] passes = refl
grown-found test seen (b ∷ bytes) passes = ap (λ t. if t then seen else grown test (seen ++ b ∷ []) bytes) passes

pub has-found : (test : List ℕ → Bool) (seen bytes : List ℕ) → test seen ≡ true → has_front test seen bytes ≡ true
has-found test seen [] passes = passes
has-found test seen (b ∷ bytes) passes = ap (λ t. t || has_front test (seen ++ b ∷ []) bytes) passes

-- where a front passes, what follows the bytes changes nothing
pub grown-append : (test : List ℕ → Bool) (seen xs ys : List ℕ) → has_front test seen xs ≡ true → grown test seen (xs ++ ys) ≡ grown test seen xs
grown-append test seen [] ys has = grown-found test seen ys has
grown-append test seen (x ∷ xs) ys has = go (test seen) refl (grown-append test (seen ++ x ∷ []) xs ys)
  where
    go : (t : Bool) → test seen ≡ t → (has_front test (seen ++ x ∷ []) xs ≡ true → grown test (seen ++ x ∷ []) (xs ++ ys) ≡ grown test (seen ++ x ∷ []) xs)
        → grown test seen ((x ∷ xs) ++ ys) ≡ grown test seen (x ∷ xs)
    go true e more = grown-found test seen ((x ∷ xs) ++ ys) e ∙ sym (grown-found test seen (x ∷ xs) e)
    go false e more =
        let later : has_front test (seen ++ x ∷ []) xs ≡ true = sym (ap (λ t. t || has_front test (seen ++ x ∷ []) xs) e) ∙ has in
        ap (λ t. if t then seen else grown test (seen ++ x ∷ []) (xs ++ ys)) e ∙ more later
        ∙ sym (ap (λ t. if t then seen else grown test (seen ++ x ∷ []) xs) e)

-- ---- a front ends with a line's end, or the text doesn't end there

pointwise-last : (needle ys : List ℕ) (c b : ℕ) → nat_eq c b ≡ false → pointwise nat_eq (needle ++ c ∷ []) (ys ++ b ∷ []) ≡ false
pointwise-last [] [] c b differ = and_left (nat_eq c b) true differ
pointwise-last [] (y ∷ []) c b differ = and_right (nat_eq c y) false refl
pointwise-last [] (y ∷ y' ∷ ys) c b differ = and_right (nat_eq c y) false refl
pointwise-last (n ∷ []) [] c b differ = and_right (nat_eq n b) false refl
pointwise-last (n ∷ n' ∷ ns) [] c b differ = and_right (nat_eq n b) false refl
pointwise-last (n ∷ ns) (y ∷ ys) c b differ = and_right (nat_eq n y) (pointwise nat_eq (ns ++ c ∷ []) (ys ++ b ∷ [])) (pointwise-last ns ys c b differ)

ends-last : (needle xs : List ℕ) (c b : ℕ) → nat_eq c b ≡ false → ends_with nat_eq (xs ++ b ∷ []) (needle ++ c ∷ []) ≡ false
ends-last needle xs c b differ =
    let k = length (xs ++ b ∷ []) - length (needle ++ c ∷ []) in
    ap (pointwise nat_eq (needle ++ c ∷ [])) (drop-append-le k xs (b ∷ []) (omega (arith, length-append xs (b ∷ []), length-append needle (c ∷ []))))
    ∙ pointwise-last needle (drop k xs) c b differ

pub no-end : (framing : Framing) (xs : List ℕ) (b : ℕ) → nat_eq 10 b ≡ false → ends framing (xs ++ b ∷ []) ≡ false
no-end Head xs b differ = ap (λ t. t || ends_with nat_eq (xs ++ b ∷ []) empty_line_cr) (ends-last (10 ∷ []) xs 10 b differ) ∙ ends-last (10 ∷ 13 ∷ []) xs 10 b differ
no-end Line xs b differ = ends-last [] xs 10 b differ

-- no text ends before its first byte
pub no-end-first : (framing : Framing) → ends framing [] ≡ false
no-end-first Head = refl
no-end-first Line = refl

-- ---- the text of what was read, where more may be left

-- bytes in which the text ends
pub text-found : (framing : Framing) (xs ys left : List ℕ) → left ≡ xs ++ ys → length xs ≤ limit_of framing → has_front (ends framing) [] xs ≡ true → trimmed framing (least_front (ends framing) xs) ≡ text_of framing left
text-found framing xs ys left is fits has =
    let cut : take (limit_of framing) (xs ++ ys) ≡ xs ++ take (limit_of framing - length xs) ys =
    ap (λ n. take n (xs ++ ys)) (omega (arith, fits)) ∙ take-append-add xs ys (limit_of framing - length xs) in
    ap (trimmed framing) (sym (grown-append (ends framing) [] xs (take (limit_of framing - length xs) ys) has) ∙ ap (least_front (ends framing)) (sym cut ∙ ap (take (limit_of framing)) (sym is)))

-- as many as a text may have
pub text-full : (framing : Framing) (xs ys left : List ℕ) → left ≡ xs ++ ys → length xs ≡ limit_of framing → trimmed framing (least_front (ends framing) xs) ≡ text_of framing left
text-full framing xs ys left is full = ap (λ l. trimmed framing (least_front (ends framing) l)) (sym (take_at xs ys (limit_of framing) full) ∙ ap (take (limit_of framing)) (sym is))

-- all that there are
pub text-all : (framing : Framing) (xs ys left : List ℕ) → left ≡ xs ++ ys → length xs ≤ limit_of framing → ys ≡ [] → trimmed framing (least_front (ends framing) xs) ≡ text_of framing left
text-all framing xs ys left is fits none =
    let same : left ≡ xs = is ∙ ap (λ l. xs ++ l) none ∙ append-nil xs in
    ap (λ l. trimmed framing (least_front (ends framing) l)) (sym (take_all (limit_of framing) xs fits) ∙ ap (take (limit_of framing)) (sym same))
