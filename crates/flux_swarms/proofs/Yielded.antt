-- Items that were yielded themselves.
use Rattle.std.proofs.Common.{◌≡◌, List, [], ◌∷◌, map, refl, ap, ◌∙◌, sym}

same_mapped : {X : Type 0} (xs : List X) → map (λ x. x) xs ≡ xs
same_mapped [] = refl
same_mapped (x ∷ xs) = ap (λ l. x ∷ l) (same_mapped xs)

pub same_yielded : {X : Type 0} (xs ys : List X) → map (λ x. x) xs ≡ ys → xs ≡ ys
same_yielded xs ys e = sym (same_mapped xs) ∙ e
