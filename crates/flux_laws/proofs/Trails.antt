-- Steps over numbers below a count that never come back are fewer than the count.
use Rattle.std.proofs.Common.{◌≡◌, ◌<◌, inl, inr, ℕ, Bool, true, false, eqb, ◌||◌, List, [], ◌∷◌, ◌++◌, length, refl, sym, subst}
use Rattle.std.specs.List.{list_any, IsDistinct, AllByRecursion}
use Rattle.std.proofs.lemmas.Bool.{eqb-true, ne_eqb}
use Rattle.std.proofs.lemmas.Map.Steps.{length-le_from_distinct_below}
use Rattle.flow_model.specs.Waits.{Chain}
use Rattle.flux_laws.proofs.Members.{In}

module _ (Step : ℕ → ℕ → Type 0) where
  chain-then : (a : ℕ) (between : List ℕ) (b c : ℕ) → Chain Step a between b → Step b c → Chain Step a (between ++ b ∷ []) c
  chain-then a [] b c chain step = (chain, step)
  chain-then a (x ∷ between) b c (first, chain) step = (first, chain-then x between b c chain step)

  -- the numbers so far, the latest first: distinct, below the count, and from each there are steps to where it is now
  pub record IsTrail (count : ℕ) (visited : List ℕ) (current : ℕ) : Type 0 where
    pub distinct : IsDistinct eqb (current ∷ visited)
    pub within : (q : ℕ) → In q (current ∷ visited) → q < count
    pub ways : (q : ℕ) → In q visited → (between : List ℕ) × Chain Step q between current

  -- a trail begins anywhere
  pub trail-start : (count x : ℕ) → x < count → IsTrail count [] x
  unfolding IsDistinct
  trail-start count x lt = record { distinct = (tt, tt); within = below; ways = λ q is. absurd is }
    where
      below : (q : ℕ) → In q (x ∷ []) → q < count
      below q (inl same) = rw (← same) lt
      below q (inr is) = absurd is

  all-apart : (x : ℕ) (ys : List ℕ) → ((y : ℕ) → In y ys → x ≡ y → ⊥) → AllByRecursion (λ y. eqb x y ≡ false) ys
  all-apart x [] apart = tt
  all-apart x (y ∷ ys) apart = (ne_eqb x y (apart y (inl refl)), all-apart x ys (λ z is. apart z (inr is)))

  -- one step more, where no steps come back
  pub trail-more : (count : ℕ) (visited : List ℕ) (from to : ℕ) → ((x : ℕ) (between : List ℕ) → Chain Step x between x → ⊥) → IsTrail count visited from → Step from to → to < count
      → IsTrail count (from ∷ visited) to
  unfolding IsDistinct
  trail-more count visited from to free trail step lt = record {
    distinct = (all-apart to (from ∷ visited) (λ y is same. back y is same), trail.distinct);
    within = below;
    ways = ways;
  }
    where
      ways : (q : ℕ) → In q (from ∷ visited) → (between : List ℕ) × Chain Step q between to
      ways q (inl same) = ([], rw (← same) step)
      ways q (inr is) = let (between, chain) = trail.ways q is in (between ++ from ∷ [], chain-then q between from to chain step)

      back : (y : ℕ) → In y (from ∷ visited) → to ≡ y → ⊥
      back y is same = let (between, chain) = ways y is in free y between (subst (λ (t : ℕ). Chain Step y between t) same chain)

      below : (q : ℕ) → In q (to ∷ from ∷ visited) → q < count
      below q (inl same) = rw (← same) lt
      below q (inr is) = trail.within q is

  in-from_any : (q : ℕ) (xs : List ℕ) → list_any (eqb q) xs ≡ true → In q xs
  in-from_any q [] any = absurd cc
  in-from_any q (x ∷ xs) any = by (eqb q x) refl any (λ more. in-from_any q xs more)
    where
      by : (b : Bool) → eqb q x ≡ b → (b || list_any (eqb q) xs) ≡ true → (list_any (eqb q) xs ≡ true → In q xs) → In q (x ∷ xs)
      by true e any more = inl (sym (eqb-true q x e))
      by false e any more = inr (more any)

  -- a trail is shorter than the count
  pub trail-short : (count : ℕ) (visited : List ℕ) (current : ℕ) → IsTrail count visited current → length visited < count
  trail-short count visited current trail =
      length-le_from_distinct_below (current ∷ visited) count trail.distinct (λ q any. trail.within q (in-from_any q (current ∷ visited) any))
