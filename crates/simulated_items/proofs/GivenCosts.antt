-- Costs that are given, and those that aren't.
use Rattle.std.proofs.Common.{◌≡◌, ◌<◌, ◌≤◌, ◌+◌, ℕ, zero, suc, List, [], ◌∷◌, ◌++◌, length, refl, sym, ap, ◌∙◌, arith}
use Rattle.std.specs.List.{slice_get, slice_index, AllByRecursion}
use Rattle.std.specs.Option.{unwrap_or}
use Rattle.flux_runs.specs.Simulations.{costs_for}

one_more : (n : ℕ) (given : List ℕ)
    → costs_for (suc n) given ≡ costs_for n given ++ unwrap_or (slice_get given n) 1 ∷ []
one_more zero [] = refl
one_more zero (cost ∷ given) = refl
one_more (suc n) [] = ap (λ (l : List ℕ). 1 ∷ l) (one_more n [])
one_more (suc n) (cost ∷ given) = ap (λ (l : List ℕ). cost ∷ l) (one_more n given)

-- the costs of one node more
pub cost_more : (n cost : ℕ) (given costs new : List ℕ) → costs ≡ costs_for n given
    → cost ≡ unwrap_or (slice_get given n) 1 → new ≡ costs ++ cost ∷ [] → new ≡ costs_for (n + 1) given
cost_more n cost given costs new so is new_ =
    let next : suc n ≡ n + 1 = omega arith in
    new_ ∙ (λ i. so i ++ is i ∷ []) ∙ sym (one_more n given) ∙ ap (λ (m : ℕ). costs_for m given) next

-- there is one for each node
pub many : (n : ℕ) (given : List ℕ) → length (costs_for n given) ≡ n
many zero given = refl
many (suc n) [] = ap suc (many n [])
many (suc n) (cost ∷ given) = ap suc (many n given)

-- each from 1 to 1,000, where those that are given are
pub all_within : (n : ℕ) (given : List ℕ)
    → ((place : ℕ) → place < length given → (1 ≤ slice_index given place) × (slice_index given place ≤ 1000))
    → AllByRecursion (λ cost. (1 ≤ cost) × (cost ≤ 1000)) (costs_for n given)
all_within zero given within = tt
all_within (suc n) [] within = ((omega arith, omega arith), all_within n [] within)
all_within (suc n) (cost ∷ given) within =
    (within zero (omega arith), all_within n given (λ place lt. within (suc place) (omega (arith, lt))))
