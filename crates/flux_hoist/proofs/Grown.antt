-- A list that has something at each of its places, added to place after place.
use Rattle.std.proofs.Common.{◌≡◌, ◌<◌, ◌+◌, ℕ, zero, suc, inl, inr, List, [], ◌∷◌, ◌++◌, length, slice_get, Option, Some, refl, sym, ap, subst, arith}
use Rattle.std.specs.Option.{unwrap_or}
use Rattle.std.proofs.lemmas.Bool.{cases_order}

-- what is at a place, and `none` past the end
abbrev pub at_or : {X : Type 0} → X → List X → ℕ → X
at_or none xs k = unwrap_or (slice_get xs k) none

get_old : {X : Type 0} (xs : List X) (x : X) (k : ℕ) → k < length xs → slice_get (xs ++ x ∷ []) k ≡ slice_get xs k
get_old [] x k lt = absurd (omega arith)
get_old (y ∷ xs) x zero lt = refl
get_old (y ∷ xs) x (suc k) lt = get_old xs x k (omega arith)

get_new : {X : Type 0} (xs : List X) (x : X) → slice_get (xs ++ x ∷ []) (length xs) ≡ Some x
get_new [] x = refl
get_new (y ∷ xs) x = get_new xs x

-- one more at the end
pub grown : {X : Type 0} (none : X) (Has : ℕ → X → Type 0) (xs : List X) (x : X) (n : ℕ) → length xs ≡ n
    → ((k : ℕ) → k < n → Has k (at_or none xs k)) → Has n x → (k : ℕ) → k < n + 1 → Has k (at_or none (xs ++ x ∷ []) k)
grown {X} none Has xs x n many each new k lt = elim (cases_order k n) [
  | inl same ↦ subst (λ (m : ℕ). Has m (at_or none (xs ++ x ∷ []) m)) (sym same) (subst (Has n) (sym last) new)
  | inr (inl low) ↦ subst (Has k) (sym (ap (λ (found : Option X). unwrap_or found none) (get_old xs x k (omega (arith, many, low))))) (each k low)
  | inr (inr high) ↦ absurd (omega (arith, high, lt))
]
  where
    last : at_or none (xs ++ x ∷ []) n ≡ x
    last = subst (λ (m : ℕ). at_or none (xs ++ x ∷ []) m ≡ x) many (ap (λ (found : Option X). unwrap_or found none) (get_new xs x))
