-- One place of a list is replaced.
use Rattle.std.proofs.Common.{◌≡◌, ◌⊎◌, inl, inr, ℕ, zero, suc, List, [], ◌∷◌, length, map, Some, refl, sym, ap, ◌∙◌, arith}
use Rattle.std.specs.List.{slice_get, slice_set}

pub length-replaced : {X : Type 0} (xs : List X) (k : ℕ) (x : X) → length (slice_set xs k x) ≡ length xs
length-replaced [] k x = refl
length-replaced (y ∷ xs) zero x = refl
length-replaced (y ∷ xs) (suc k) x = ap suc (length-replaced xs k x)

-- what is at a place then
pub replaced-cases : {X : Type 0} (xs : List X) (k n : ℕ) (x y : X) → slice_get (slice_set xs k x) n ≡ Some y
    → ((k ≡ n) × (x ≡ y)) ⊎ ((k ≡ n → ⊥) × (slice_get xs n ≡ Some y))
replaced-cases [] k n x y is = absurd cc
replaced-cases (z ∷ xs) zero zero x y is = inl (refl, cc)
replaced-cases (z ∷ xs) zero (suc n) x y is = inr (λ e. omega (arith, e), is)
replaced-cases (z ∷ xs) (suc k) zero x y is = inr (λ e. omega (arith, e), is)
replaced-cases (z ∷ xs) (suc k) (suc n) x y is = by (replaced-cases xs k n x y is)
  where
    by : ((k ≡ n) × (x ≡ y)) ⊎ ((k ≡ n → ⊥) × (slice_get xs n ≡ Some y))
        → ((suc k ≡ suc n) × (x ≡ y)) ⊎ ((suc k ≡ suc n → ⊥) × (slice_get xs n ≡ Some y))
    by (inl (same, e)) = inl (ap suc same, e)
    by (inr (apart, there)) = inr (λ e. apart (omega (arith, e)), there)

-- what is replaced by the same stays
pub replaced-same : {X : Type 0} (xs : List X) (k : ℕ) (x : X) → slice_get xs k ≡ Some x → slice_set xs k x ≡ xs
replaced-same [] k x is = refl
replaced-same (y ∷ xs) zero x is = cc
replaced-same (y ∷ xs) (suc k) x is = ap (λ ys. y ∷ ys) (replaced-same xs k x is)

pub map-replaced : {X Y : Type 0} (f : X → Y) (xs : List X) (k : ℕ) (x : X)
    → map f (slice_set xs k x) ≡ slice_set (map f xs) k (f x)
map-replaced f [] k x = refl
map-replaced f (y ∷ xs) zero x = refl
map-replaced f (y ∷ xs) (suc k) x = ap (λ ys. f y ∷ ys) (map-replaced f xs k x)

-- what f doesn't tell apart from the old stays under f
pub map-replaced_same : {X Y : Type 0} (f : X → Y) (xs : List X) (k : ℕ) (x y : X) → slice_get xs k ≡ Some y → f x ≡ f y
    → map f (slice_set xs k x) ≡ map f xs
map-replaced_same f [] k x y is same = refl
map-replaced_same f (z ∷ xs) zero x y is same = let e : z ≡ y = cc in ap (λ w. w ∷ map f xs) (same ∙ ap f (sym e))
map-replaced_same f (z ∷ xs) (suc k) x y is same = ap (λ ys. f z ∷ ys) (map-replaced_same f xs k x y is same)

pub get-replaced : {X : Type 0} (xs : List X) (k : ℕ) (x y : X) → slice_get xs k ≡ Some y
    → slice_get (slice_set xs k x) k ≡ Some x
get-replaced [] k x y is = absurd cc
get-replaced (z ∷ xs) zero x y is = refl
get-replaced (z ∷ xs) (suc k) x y is = get-replaced xs k x y is

pub get-replaced_other : {X : Type 0} (xs : List X) (k n : ℕ) (x : X) → (k ≡ n → ⊥)
    → slice_get (slice_set xs k x) n ≡ slice_get xs n
get-replaced_other [] k n x apart = refl
get-replaced_other (z ∷ xs) zero zero x apart = absurd (apart refl)
get-replaced_other (z ∷ xs) zero (suc n) x apart = refl
get-replaced_other (z ∷ xs) (suc k) zero x apart = refl
get-replaced_other (z ∷ xs) (suc k) (suc n) x apart = get-replaced_other xs k n x (λ e. apart (ap suc e))
