-- The least place of words that come one after the other.
use Rattle.std.proofs.Common.{◌≡◌, ℕ, List, [], ◌∷◌, ◌++◌, Option, Some, refl, ◌∙◌}
use Rattle.std.specs.List.{flat_map}
use Rattle.flux_syntax.specs.declared.declarations.Word.{Word}
use Rattle.flux_syntax.specs.Least.{sooner, soonest}

-- the least place of two lists of words, one after the other
pub soonest_append : (place : Option ℕ) (a b : List Word) → soonest place (a ++ b) ≡ soonest (soonest place a) b
soonest_append place [] b = refl
soonest_append place (w ∷ a) b = soonest_append (Some (sooner place w.at)) a b

-- the same, list after list
abbrev pub soonest_all : {A : Type 0} → (A → List Word) → Option ℕ → List A → Option ℕ
soonest_all f place [] = place
soonest_all f place (x ∷ xs) = soonest_all f (soonest place (f x)) xs

-- the least place of words that come list after list
pub soonest_flat : {A : Type 0} (f : A → List Word) (place : Option ℕ) (xs : List A) → soonest place (flat_map f xs) ≡ soonest_all f place xs
soonest_flat f place [] = refl
soonest_flat f place (x ∷ xs) = soonest_append place (f x) (flat_map f xs) ∙ soonest_flat f (soonest place (f x)) xs
