-- Entries in the order of their keys: what a search finds, and what an edit at that place does.
use Rattle.std.proofs.Common.{◌≡◌, ℕ, zero, suc, ◌<◌, ◌≤◌, true, not, List, [], ◌∷◌, length, get_or, set, Some, None, refl, sym, ap, ◌∙◌, arith, inl, inr}
use Rattle.std.specs.declared.cmp.Ordering.{Ordering}
use Rattle.std.specs.declared.cmp.Ordering.TheVariants.{Less, Equal, Greater}
use Rattle.std.specs.Ordering.{is_lt, eq_by_cmp, ordering_reverse, ordering_index}
use Rattle.std.specs.Cmp.{IsTotalOrder}
use Rattle.std.specs.List.{insert, remove}
use Rattle.std.specs.List.Sorted.{IsNonDecreasingBy}
use Rattle.std.specs.FinMap.Entries.{put, find, where_key, is_sorted, below_all}
use Rattle.std.proofs.lemmas.Bool.{and_parts, cases_order}

less_from_test : (o : Ordering) → is_lt o ≡ true → o ≡ Less
less_from_test Less e = refl
less_from_test Equal e = absurd cc
less_from_test Greater e = absurd cc

module _ {K : Type 0} (R : K → K → Ordering) (o : IsTotalOrder R) where
  flip_less : (x y : K) → R x y ≡ Less → R y x ≡ Greater
  flip_less x y e = o.antisymm y x ∙ ap ordering_reverse e

  flip_greater : (x y : K) → R x y ≡ Greater → R y x ≡ Less
  flip_greater x y e = o.antisymm y x ∙ ap ordering_reverse e

  flip_equal : (x y : K) → R x y ≡ Equal → R y x ≡ Equal
  flip_equal x y e = o.antisymm y x ∙ ap ordering_reverse e

  -- what is below a key is below one that ties with it
  less_tied : (x y q : K) → R x y ≡ Less → R y q ≡ Equal → R x q ≡ Less
  less_tied x y q l e = o.antisymm x q ∙ ap ordering_reverse (sym (o.congr y q x e) ∙ flip_less x y l)

  index_rises : (x y q : K) → R x y ≡ Less → ordering_index (R x q) ≤ ordering_index (R y q)
  index_rises x y q l =
      elim (R y q) as (λ r. R y q ≡ r → ordering_index (R x q) ≤ ordering_index r) [
        | Less ↦ λ e. rw (o.trans x y q l e) (omega arith)
        | Equal ↦ λ e. rw (less_tied x y q l e) (omega arith)
        | Greater ↦ λ e. elim (R x q) as (λ r. ordering_index r ≤ 2) [ Less ↦ omega arith | Equal ↦ omega arith | Greater ↦ omega arith ]
      ] refl

module _ {K X : Type 0} (R : K → K → Ordering) (o : IsTotalOrder R) where
  -- how the key at a place compares
  abbrev pub at : List (K × X) → K → ℕ → K × X → Ordering
  at es q k d = let e = get_or es k d in R e.0 q

  -- the first key is below each later one
  below_each : (x : K) (es : List (K × X)) → below_all R x es ≡ true → (k : ℕ) (d : K × X) → k < length es → R x (get_or es k d).0 ≡ Less
  below_each x [] h k d lt = absurd (omega arith)
  below_each x (e ∷ es) h zero d lt = less_from_test _ (and_parts _ _ h).0
  below_each x (e ∷ es) h (suc k) d lt = below_each x es (and_parts _ _ h).1 k d (omega arith)

  -- in entries in order, each key is below each later one
  pub rises : (es : List (K × X)) → is_sorted R es ≡ true → (i j : ℕ) (d : K × X) → i < j → j < length es → R (get_or es i d).0 (get_or es j d).0 ≡ Less
  rises [] h i j d lt in_range = absurd (omega arith)
  rises (e ∷ es) h i zero d lt in_range = absurd (omega arith)
  rises (e ∷ es) h zero (suc j) d lt in_range = below_each e.0 es (and_parts _ _ h).0 j d (omega arith)
  rises (e ∷ es) h (suc i) (suc j) d lt in_range = rises es (and_parts _ _ h).1 i j d (omega arith) (omega arith)

  -- so the comparisons with any key rise, as a binary search asks
  pub comparisons_rise : (es : List (K × X)) → is_sorted R es ≡ true → (q : K) → IsNonDecreasingBy (λ (e : K × X). ordering_index (R e.0 q)) es
  comparisons_rise es h q i j d le in_range =
      elim (cases_order i j) [
        | inl same ↦ rw same (omega arith)
        | inr (inl lt) ↦ index_rises R o _ _ q (rises es h i j d lt in_range)
        | inr (inr gt) ↦ absurd (omega arith)
      ]

  -- ---- a key that would go at a place

  pub record IsGap (es : List (K × X)) (q : K) (place : ℕ) : Type 0 where
    pub within : place ≤ length es
    pub before : (k : ℕ) (d : K × X) → k < place → at es q k d ≡ Less
    pub after : (k : ℕ) (d : K × X) → place ≤ k → k < length es → at es q k d ≡ Greater

  gap_rest : (e : K × X) (es : List (K × X)) (q : K) (place : ℕ) → IsGap (e ∷ es) q (suc place) → IsGap es q place
  gap_rest e es q place g = record { within = omega (arith, g.within); before = λ k d lt. g.before (suc k) d (omega arith); after = λ k d le lt. g.after (suc k) d (omega arith) (omega arith) }

  gap_zero : (e : K × X) (es : List (K × X)) (q : K) → IsGap (e ∷ es) q zero → IsGap es q zero
  gap_zero e es q g = record { within = omega arith; before = λ k d lt. absurd (omega arith); after = λ k d le lt. g.after (suc k) d (omega arith) (omega arith) }

  pub gap_find : (es : List (K × X)) (q : K) (place : ℕ) → IsGap es q place → find R q es ≡ None
  gap_find [] q place g = refl
  gap_find (e ∷ es) q zero g = rw (flip_greater R o _ _ (g.after 0 e (omega arith) (omega arith))) (gap_find es q zero (gap_zero e es q g))
  gap_find (e ∷ es) q (suc place) g = rw (flip_less R o _ _ (g.before 0 e (omega arith))) (gap_find es q place (gap_rest e es q place g))

  pub gap_put : (es : List (K × X)) (q : K) (v : X) (place : ℕ) → IsGap es q place → put R q v es ≡ insert es place (q, v)
  gap_put [] q v zero g = refl
  gap_put [] q v (suc place) g = absurd (omega (arith, g.within))
  gap_put (e ∷ es) q v zero g = rw (flip_greater R o _ _ (g.after 0 e (omega arith) (omega arith))) refl
  gap_put (e ∷ es) q v (suc place) g = rw (flip_less R o _ _ (g.before 0 e (omega arith))) (ap (λ (l : List (K × X)). e ∷ l) (gap_put es q v place (gap_rest e es q place g)))

  pub gap_without : (es : List (K × X)) (q : K) (place : ℕ) → IsGap es q place → where_key R (λ x. not (eq_by_cmp R q x)) es ≡ es
  gap_without [] q place g = refl
  gap_without (e ∷ es) q zero g = rw (flip_greater R o _ _ (g.after 0 e (omega arith) (omega arith))) (ap (λ (l : List (K × X)). e ∷ l) (gap_without es q zero (gap_zero e es q g)))
  gap_without (e ∷ es) q (suc place) g = rw (flip_less R o _ _ (g.before 0 e (omega arith))) (ap (λ (l : List (K × X)). e ∷ l) (gap_without es q place (gap_rest e es q place g)))

  -- ---- a key that is at a place

  pub record IsThere (es : List (K × X)) (q : K) (place : ℕ) : Type 0 where
    pub order : is_sorted R es ≡ true
    pub within : place < length es
    pub tied : (d : K × X) → at es q place d ≡ Equal

  there_rest : (e : K × X) (es : List (K × X)) (q : K) (place : ℕ) → IsThere (e ∷ es) q (suc place) → IsThere es q place
  there_rest e es q place t = record { order = (and_parts _ _ t.order).1; within = omega (arith, t.within); tied = λ d. t.tied d }

  -- the keys before it are smaller
  there_before : (e : K × X) (es : List (K × X)) (q : K) (place : ℕ) → IsThere (e ∷ es) q (suc place) → R q e.0 ≡ Greater
  there_before e es q place t = flip_less R o _ _ (less_tied R o e.0 (get_or es place e).0 q (rises (e ∷ es) t.order 0 (suc place) e (omega arith) t.within) (t.tied e))

  -- the keys after it are greater
  there_after : (e : K × X) (es : List (K × X)) (q : K) → IsThere (e ∷ es) q zero → IsGap es q zero
  there_after e es q t = record {
    within = omega arith;
    before = λ k d lt. absurd (omega arith);
    after = λ k d le lt. flip_less R o _ _ (sym (o.congr e.0 q (get_or es k d).0 (t.tied e)) ∙ rises (e ∷ es) t.order 0 (suc k) d (omega arith) (omega arith));
  }

  pub there_find : (es : List (K × X)) (q : K) (place : ℕ) (d : K × X) → IsThere es q place → find R q es ≡ Some (get_or es place d).1
  there_find [] q place d t = absurd (omega (arith, t.within))
  there_find (e ∷ es) q zero d t = rw (flip_equal R o _ _ (t.tied e)) refl
  there_find (e ∷ es) q (suc place) d t = rw (there_before e es q place t) (there_find es q place d (there_rest e es q place t))

  pub there_put : (es : List (K × X)) (q : K) (v : X) (place : ℕ) (d : K × X) → IsThere es q place → put R q v es ≡ set es place ((get_or es place d).0, v)
  there_put [] q v place d t = absurd (omega (arith, t.within))
  there_put (e ∷ es) q v zero d t = rw (flip_equal R o _ _ (t.tied e)) refl
  there_put (e ∷ es) q v (suc place) d t = rw (there_before e es q place t) (ap (λ (l : List (K × X)). e ∷ l) (there_put es q v place d (there_rest e es q place t)))

  pub there_without : (es : List (K × X)) (q : K) (place : ℕ) → IsThere es q place → where_key R (λ x. not (eq_by_cmp R q x)) es ≡ remove es place
  there_without [] q place t = absurd (omega (arith, t.within))
  there_without (e ∷ es) q zero t = rw (flip_equal R o _ _ (t.tied e)) (gap_without es q zero (there_after e es q t))
  there_without (e ∷ es) q (suc place) t = rw (there_before e es q place t) (ap (λ (l : List (K × X)). e ∷ l) (there_without es q place (there_rest e es q place t)))
