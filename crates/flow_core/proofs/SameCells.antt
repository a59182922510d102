-- Cells with the same names in the same places, and the same values under them, are the same.
use Rattle.std.proofs.Common.{◌≡◌, ℕ, zero, suc, ◌<◌, Bool, true, false, ◌||◌, List, [], ◌∷◌, Option, Some, None, Bor, not, refl, sym, ap, ◌∙◌, arith}
use Rattle.std.specs.List.{slice_get, list_any}
use Rattle.std.specs.Ordering.{nat_cmp, eq_by_cmp, is_eq}
use Rattle.std.specs.declared.cmp.Ordering.{Ordering}
use Rattle.std.specs.declared.cmp.Ordering.TheVariants.{Less, Equal, Greater}
use Rattle.std.specs.Cmp.Lexicographic.{slice_cmp}
use Rattle.std.specs.Option.{is_some, option_copied}
use Rattle.std.specs.FinMap as fin
use Rattle.std.proofs.lemmas.Bool.{false≢true}
use Rattle.std.proofs.lemmas.Cmp.{nat_list_cmp_total}
use Rattle.flux_values.specs.declared.values.Value.{Value}
use Rattle.flux_values.specs.Cells.{CellMap}
use Rattle.flow_core.specs.steps.Sameness.{IsSameAt, AreSameBelow}

abbrev by_name : List ℕ → List ℕ → Ordering
by_name = slice_cmp nat_cmp

equal-is : (q name : List ℕ) → eq_by_cmp by_name q name ≡ true → q ≡ name
equal-is q name is = fin.slice_cmp-IsAntisymmetric fin.nat_cmp-IsAntisymmetric q name (told (by_name q name) is)
  where
    told : (o : Ordering) → is_eq o ≡ true → o ≡ Equal
    told Less e = absurd (false≢true e)
    told Equal e = refl
    told Greater e = absurd (false≢true e)

-- a name among keys is at a place
found-at : (names : List (List ℕ)) (q : List ℕ) → list_any (eq_by_cmp by_name q) names ≡ true
    → (k : ℕ) × (slice_get names k ≡ Some q)
found-at [] q is = absurd cc
found-at (name ∷ names) q is = by (eq_by_cmp by_name q name) refl is (found-at names q)
  where
    by : (b : Bool) → eq_by_cmp by_name q name ≡ b → (b || list_any (eq_by_cmp by_name q) names) ≡ true
        → (list_any (eq_by_cmp by_name q) names ≡ true → (k : ℕ) × (slice_get names k ≡ Some q))
        → (k : ℕ) × (slice_get (name ∷ names) k ≡ Some q)
    by true same is more = (zero, ap Some (sym (equal-is q name same)))
    by false apart is more = let (k, at) = more is in (suc k, at)

none-past : {X : Type 0} (xs : List X) (k n : ℕ) (x : X) → slice_get xs n ≡ None → slice_get xs k ≡ Some x → k < n
none-past [] k n x none at = absurd cc
none-past (y ∷ xs) k zero x none at = absurd cc
none-past (y ∷ xs) zero (suc n) x none at = omega arith
none-past (y ∷ xs) (suc k) (suc n) x none at = let lt = none-past xs k n x none at in omega (arith, lt)

-- a value under a name is with it
key-at : (m : CellMap) (q : List ℕ) (value : Value) → fin.get m q ≡ Some value
    → (k : ℕ) × (slice_get (fin.keys m) k ≡ Some q)
key-at m q value is = found-at (fin.keys m) q (sym (fin.contains_key-keys m q) ∙ ap (λ (o : Option Value). is_some o)
    is)

pub same-cells : (a b : CellMap) (place : ℕ) → AreSameBelow a b place → slice_get (fin.keys a) place ≡ None
    → slice_get (fin.keys b) place ≡ None → a ≡ b
same-cells a b place same end_a end_b =
    fin.same_map nat_list_cmp_total (fin.slice_cmp-IsAntisymmetric fin.nat_cmp-IsAntisymmetric) a b
    (λ q. by q (fin.get a q) refl (fin.get b q) refl)
  where
    by : (q : List ℕ) (x : Option Value) → fin.get a q ≡ x → (y : Option Value) → fin.get b q ≡ y
        → fin.get a q ≡ fin.get b q
    by q None is None their = is ∙ sym their
    by q (Some value) is y their =
        let (k, at) = key-at a q value is in
        let here = same k (none-past (fin.keys a) k place q end_a at) in
        here.values_ q at
    by q None is (Some value) their =
        let (k, at) = key-at b q value their in
        let here = same k (none-past (fin.keys b) k place q end_b at) in
        here.values_ q (here.names ∙ at)

pub same-at : (a b : CellMap) (place : ℕ) → a ≡ b → IsSameAt a b place
same-at a b place e = record {
  names = ap (λ (m : CellMap). slice_get (fin.keys m) place) e;
  values_ = λ name at. ap (λ (m : CellMap). fin.get m name) e;
}

-- ---- names that were looked for

pub none-copied : {T : Type 0} (o : Option (Bor T)) → is_some o ≡ false → option_copied o ≡ None
none-copied None e = refl
none-copied (Some x) e = absurd (false≢true (sym e))

pub copied-none : {T : Type 0} (o : Option (Bor T)) → option_copied o ≡ None → is_some o ≡ false
copied-none None e = refl
copied-none (Some x) e = absurd cc

pub is-none_from : (b : Bool) → not b ≡ false → b ≡ true
is-none_from true e = refl
is-none_from false e = absurd (false≢true (sym e))
