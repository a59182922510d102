-- Texts cut at a byte, and numbers that a whole text is.
use Rattle.std.proofs.Common.{◌≡◌, ◌≢◌, ℕ, suc, ◌+◌, ◌<◌, ◌≤◌, ◌^◌, Bool, true, false, not, eqb, List, [], ◌∷◌, ◌++◌, length, take, drop, get_or, Option, Some, None, refl, sym, ap, ◌∙◌, subst, arith}
use Rattle.std.specs.List.{position_or_len}
use Rattle.std.specs.Fmt.{decimal}
use Rattle.std.specs.Prelude.{MatchOption, IfSome, IfNone}
use Rattle.std.specs.Borrow.{Bor}
use Rattle.std.proofs.lemmas.Bool.{cond_both, eqb-true}
use Rattle.std.proofs.lemmas.Bool.Decides.{nat_tests}
use Rattle.std.proofs.lemmas.List.{length-append, append-nil, take-append-drop, take_all, drop_more}
use Rattle.std.proofs.lemmas.List.Sums.{passes_at_first}
use Rattle.flux_values.specs.Spellings.{BeginsDecimal, IsDecimalRead}
use Rattle.flux_spelling.proofs.Decimals.{one_decimal}
use Rattle.flux_journal.specs.steps.Cuts.{IsCut, HasNone, IsNumber}

-- ---- cuts

pub not_back : (t : Bool) → not t ≡ true → t ≡ false
not_back true e = absurd cc
not_back false e = refl

none_before : (m : ℕ) (text : List ℕ) → HasNone m (take (position_or_len (λ b. eqb b m) text) text)
none_before m [] = tt
none_before m (b ∷ text) =
    let n = position_or_len (λ c. eqb c m) text in
    let more : suc n ≡ 1 + n = omega arith in
    cond_both (not (eqb b m)) (1 + n) 0 (λ (i : ℕ). HasNone m (take i (b ∷ text)))
    (λ e. subst (λ (i : ℕ). HasNone m (take i (b ∷ text))) more (not_back (eqb b m) e, none_before m text))
    (λ e. tt)

pub cut_found : (m i : ℕ) (text : List ℕ) → i ≡ position_or_len (λ b. eqb b m) text → i < length text → IsCut m text (take i text) (drop (i + 1) text)
cut_found m i text is lt =
    let at : get_or text i 0 ≡ m = eqb-true (get_or text i 0) m (ap (λ (k : ℕ). eqb (get_or text k 0) m) is ∙ passes_at_first (λ b. eqb b m) text 0 (omega (arith, is, lt))) in
    record {
      none = subst (λ (k : ℕ). HasNone m (take k text)) (sym is) (none_before m text);
      laid = sym (take-append-drop i text) ∙ ap (λ (t : List ℕ). take i text ++ t) (drop_more text i 0 lt ∙ ap (λ (b : ℕ). b ∷ drop (i + 1) text) at);
    }

pub cut_none : (m i : ℕ) (text : List ℕ) → i ≡ position_or_len (λ b. eqb b m) text → i ≡ length text → HasNone m text
cut_none m i text is all = subst (HasNone m) (take_all i text (omega (arith, all))) (subst (λ (k : ℕ). HasNone m (take k text)) (sym is) (none_before m text))

-- a text is cut in one way into bytes that aren't marks and a mark after them
pub record SameCut (a b x y : List ℕ) : Type 0 where
  pub front : a ≡ b
  pub rest : x ≡ y

marked : (m : ℕ) → eqb m m ≡ false → ⊥
marked m e = let other : m ≢ m = grind (arith, nat_tests) in other refl

pub same_cut : (m : ℕ) (a b x y : List ℕ) → HasNone m a → HasNone m b → a ++ m ∷ x ≡ b ++ m ∷ y → SameCut a b x y
same_cut m [] [] x y none clean e = record { front = refl; rest = cc }
same_cut m [] (c ∷ b) x y none clean e = let is : m ≡ c = cc in absurd (marked m (subst (λ (k : ℕ). eqb k m ≡ false) (sym is) clean.0))
same_cut m (c ∷ a) [] x y none clean e = let is : c ≡ m = cc in absurd (marked m (subst (λ (k : ℕ). eqb k m ≡ false) is none.0))
same_cut m (c ∷ a) (d ∷ b) x y none clean e =
    let heads : c ≡ d = cc in
    let tails : a ++ m ∷ x ≡ b ++ m ∷ y = cc in
    let s = same_cut m a b x y none.1 clean.1 tails in
    record { front = ap (λ (k : ℕ). k ∷ a) heads ∙ ap (λ (t : List ℕ). d ∷ t) s.front; rest = s.rest }

-- no mark is where there is none
pub no_cut : (m : ℕ) (a b y : List ℕ) → HasNone m a → a ≡ b ++ m ∷ y → ⊥
no_cut m [] [] y none e = absurd cc
no_cut m [] (c ∷ b) y none e = absurd cc
no_cut m (c ∷ a) [] y none e = let is : c ≡ m = cc in marked m (subst (λ (k : ℕ). eqb k m ≡ false) is none.0)
no_cut m (c ∷ a) (d ∷ b) y none e = let tails : a ≡ b ++ m ∷ y = cc in no_cut m a b y none.1 tails

-- ---- numbers

no_rest : (a rest whole : List ℕ) → whole ≡ a ++ rest → length a ≡ length whole → whole ≡ a
no_rest a [] whole e n = e ∙ append-nil a
no_rest a (b ∷ rest) whole e n = absurd (omega (arith, ap length e, length-append a (b ∷ rest), n))

pub number_found : (bytes : List ℕ) (limit number n : ℕ) → BeginsDecimal bytes limit number n → n ≡ length bytes → IsNumber limit bytes number
number_found bytes limit number n begins all = (begins.small, no_rest (decimal number) begins.rest bytes begins.front (sym begins.long ∙ all))

as_begins : (bytes : List ℕ) (limit number : ℕ) → IsNumber limit bytes number → BeginsDecimal bytes limit number (length (decimal number))
as_begins bytes limit number is = record { rest = []; small = is.0; front = is.1 ∙ sym (append-nil (decimal number)); ends = tt; long = refl }

pub number_none : (bytes : List ℕ) (limit : ℕ) → IsDecimalRead bytes limit None → (number : ℕ) → IsNumber limit bytes number → ⊥
number_none bytes limit none number is = none number (length (decimal number)) (as_begins bytes limit number is)

pub number_part : (bytes : List ℕ) (limit read n : ℕ) → limit < 2 ^ 64 → BeginsDecimal bytes limit read n → (n ≡ length bytes → ⊥) → (number : ℕ) → IsNumber limit bytes number → ⊥
unfolding as_begins
number_part bytes limit read n small begins part number is =
    let own = as_begins bytes limit number is in
    let same = one_decimal limit read number begins.rest [] small begins.small is.0 begins.ends tt (sym begins.front ∙ own.front) in
    part (begins.long ∙ ap (λ (k : ℕ). length (decimal k)) same.0 ∙ ap length (sym is.1))

-- one number is the bytes
pub one_number : (limit k j : ℕ) → limit < 2 ^ 64 → k ≤ limit → j ≤ limit → decimal k ≡ decimal j → k ≡ j
one_number limit k j small first second e = let same = one_decimal limit k j [] [] small first second tt tt (append-nil (decimal k) ∙ e ∙ sym (append-nil (decimal j))) in same.0

-- ---- what follows a word

pub found_front : (s p : List ℕ) (r : Option (Bor (List ℕ))) → MatchOption r ((rest : List ℕ) → s ≡ p ++ rest → ⊥) (λ x. s ≡ p ++ x.now) → IfSome r (λ x. s ≡ p ++ x.now)
found_front s p None h = tt
found_front s p (Some x) h = h

pub no_front : (s p : List ℕ) (r : Option (Bor (List ℕ))) → MatchOption r ((rest : List ℕ) → s ≡ p ++ rest → ⊥) (λ x. s ≡ p ++ x.now) → IfNone r ((rest : List ℕ) → s ≡ p ++ rest → ⊥)
no_front s p None h = h
no_front s p (Some x) h = tt
