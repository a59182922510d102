-- What a binary search among rising holds finds.
use Rattle.std.proofs.Common.{◌≡◌, ◌<◌, ◌≤◌, ℕ, inl, inr, List, length, get_or, Result, Ok, Err, sym, arith}
use Rattle.std.specs.declared.cmp.Ordering.{Ordering}
use Rattle.std.specs.declared.cmp.Ordering.TheVariants.{Less, Equal, Greater}
use Rattle.std.specs.Ordering.{nat_cmp, ordering_index}
use Rattle.std.specs.Cmp.{nat_cmp_is}
use Rattle.std.specs.List.Sorted.{IsSearchInRange, IsBinarySearchResult, IsNonDecreasingBy}
use Rattle.std.proofs.lemmas.Bool.{cases_order}
use Rattle.std.proofs.lemmas.Option.{slice_get-get_or}
use Rattle.flux_model.specs.declared.programs.ClassNo.{ClassNo}
use Rattle.flux_model.specs.declared.programs.Hold.{Hold}
use Rattle.flux_model.specs.Locks.{AreRising}
use Rattle.flux_constraints.specs.steps.Places.{IsPlaceOf}

less_is : (x y : ℕ) → x < y → nat_cmp x y ≡ Less
less_is x y lt = sym (nat_cmp_is x y Less lt)

equal_is : (x y : ℕ) → x ≡ y → nat_cmp x y ≡ Equal
equal_is x y e = sym (nat_cmp_is x y Equal e)

greater_is : (x y : ℕ) → y < x → nat_cmp x y ≡ Greater
greater_is x y gt = sym (nat_cmp_is x y Greater gt)

is_less : (x y : ℕ) → nat_cmp x y ≡ Less → x < y
is_less x y e = elim (cases_order x y) [
  | inl same ↦ absurd (let f = equal_is x y same in cc)
  | inr (inl lt) ↦ lt
  | inr (inr gt) ↦ absurd (let f = greater_is x y gt in cc)
]

is_equal : (x y : ℕ) → nat_cmp x y ≡ Equal → x ≡ y
is_equal x y e = elim (cases_order x y) [
  | inl same ↦ same
  | inr (inl lt) ↦ absurd (let f = less_is x y lt in cc)
  | inr (inr gt) ↦ absurd (let f = greater_is x y gt in cc)
]

is_greater : (x y : ℕ) → nat_cmp x y ≡ Greater → y < x
is_greater x y e = elim (cases_order x y) [
  | inl same ↦ absurd (let f = equal_is x y same in cc)
  | inr (inl lt) ↦ absurd (let f = less_is x y lt in cc)
  | inr (inr gt) ↦ gt
]

at_most_two : (o : Ordering) → ordering_index o ≤ 2
at_most_two Less = omega arith
at_most_two Equal = omega arith
at_most_two Greater = omega arith

index_rises : (a b q : ℕ) → a ≤ b → ordering_index (nat_cmp a q) ≤ ordering_index (nat_cmp b q)
index_rises a b q le = elim (cases_order b q) [
  | inl same ↦ elim (cases_order a q) [
    | inl e ↦ rw (equal_is a q e, equal_is b q same) (omega arith)
    | inr (inl lt) ↦ rw (less_is a q lt, equal_is b q same) (omega arith)
    | inr (inr gt) ↦ absurd (omega arith)
  ]
  | inr (inl lt) ↦ let low : a < q = omega arith in rw (less_is a q low, less_is b q lt) (omega arith)
  | inr (inr gt) ↦ rw (greater_is b q gt) (at_most_two (nat_cmp a q))
]

comparisons_rise : (hs : List Hold) → AreRising hs → (q : ℕ) → IsNonDecreasingBy (λ (h : Hold). ordering_index (nat_cmp h.class.0 q)) hs
comparisons_rise hs are q i j d le lt = elim (cases_order i j) [
  | inl same ↦ rw same (omega arith)
  | inr (inl less) ↦
      let rises = are i j (get_or hs i d) (get_or hs j d) less (slice_get-get_or hs i d (omega arith)) (slice_get-get_or hs j d lt) in
      index_rises (get_or hs i d).class.0 (get_or hs j d).class.0 q (omega (arith, rises))
  | inr (inr gt) ↦ absurd (omega arith)
]

-- a binary search finds the place of a class
pub place_of : (hs : List Hold) (class : ClassNo) (r : Result ℕ ℕ) → AreRising hs → IsSearchInRange r (length hs) → IsBinarySearchResult (λ (h : Hold). nat_cmp h.class.0 class.0) hs r → IsPlaceOf hs class r
place_of hs class (Ok place) are in_range equal = record { within = in_range; same = λ d. is_equal _ _ (equal d) }
place_of hs class (Err place) are in_range parted =
    let parts = parted (comparisons_rise hs are class.0) in
    record {
      within = in_range;
      before = λ k d lt. is_less _ _ (parts.0 k d (omega arith) lt);
      after = λ k d le lt. is_greater _ _ (parts.1 k d le lt);
    }
