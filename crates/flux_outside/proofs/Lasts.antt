-- The last item of a list.
use Rattle.std.proofs.Common.{◌≡◌, ℕ, ◌-◌, List, [], ◌∷◌, ◌++◌, length, Option, Some, refl, ap, ◌∙◌, arith}
use Rattle.std.proofs.lemmas.List.{length-append}
use Rattle.std.proofs.lemmas.Option.{same_Some}
use Rattle.std.specs.List.{slice_get}

at-end : {X : Type 0} → (after : List X) (item : X) → slice_get (after ++ item ∷ []) (length after) ≡ Some item
at-end [] item = refl
at-end (x ∷ after) item = at-end after item

one-less : {X : Type 0} → (after : List X) (item : X) → length (after ++ item ∷ []) - 1 ≡ length after
one-less after item = omega (arith, length-append after (item ∷ []))

-- the item that was seen last is the one that is taken from the end
pub last_taken : {X : Type 0} → (before after : List X) (last item : X)
    → Some last ≡ slice_get before (length before - 1) → before ≡ after ++ item ∷ [] → last ≡ item
last_taken {X} before after last item seen taken =
    same_Some last item (seen ∙ ap (λ (l : List X). slice_get l (length l - 1)) taken
    ∙ ap (slice_get (after ++ item ∷ [])) (one-less after item) ∙ at-end after item)
