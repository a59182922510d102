-- A list in which one item was put in place of another.
use Rattle.std.proofs.Common.{◌≡◌, ◌<◌, ℕ, zero, suc, List, [], ◌∷◌, length, Some, refl, ap, arith, slice_set}
use Rattle.std.specs.List.{slice_get}

pub get_put : {X : Type 0} (xs : List X) (place : ℕ) (x : X) → place < length xs → slice_get (slice_set xs place x) place ≡ Some x
get_put [] place x lt = absurd (omega (arith, lt))
get_put (y ∷ xs) zero x lt = refl
get_put (y ∷ xs) (suc place) x lt = get_put xs place x (omega (arith, lt))

pub get_beside : {X : Type 0} (xs : List X) (place other : ℕ) (x : X) → (other ≡ place → ⊥) → slice_get (slice_set xs place x) other ≡ slice_get xs other
get_beside [] place other x apart = refl
get_beside (y ∷ xs) zero zero x apart = absurd (apart refl)
get_beside (y ∷ xs) zero (suc other) x apart = refl
get_beside (y ∷ xs) (suc place) zero x apart = refl
get_beside (y ∷ xs) (suc place) (suc other) x apart = get_beside xs place other x (λ e. apart (ap suc e))
