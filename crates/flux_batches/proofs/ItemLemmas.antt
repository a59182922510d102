-- The values of a link's item.
use Rattle.std.proofs.Common.{◌≡◌, ℕ, ◌<◌, ◌≤◌, List, [], ◌∷◌, ◌++◌, length, get_or, Fits, w8, w64, refl, sym, ap, ◌∙◌, subst, arith}
use Rattle.std.specs.Prelude.{ℤ, FitsSigned}
use Rattle.std.proofs.lemmas.List.Elements.{All-from_get_or}
use Rattle.flux_values.specs.declared.texts.TheConstants.{TEXT_LIMIT}
use Rattle.flux_values.specs.declared.values.Kind.TheVariants as kinds
use Rattle.flux_values.specs.declared.values.Value.{Value}
use Rattle.flux_values.specs.declared.values.Value.TheVariants as values
use Rattle.flux_model.specs.Items.{AreValues}

-- a number and a text, one added after the other
pub values-fit : (number : ℤ) (bytes text : List ℕ) (one both : List Value) → FitsSigned w64 number → ((i : ℕ) → Fits w8 (get_or bytes i 0)) → length bytes ≤ TEXT_LIMIT → text ≡ bytes
    → one ≡ values.Int number ∷ [] → both ≡ one ++ values.Text text ∷ [] → AreValues (kinds.Int ∷ kinds.Text ∷ []) both
values-fit number bytes text one both fits small short same first second =
    let P : List Value → Type 0 = AreValues (kinds.Int ∷ kinds.Text ∷ []) in
    let is : both ≡ values.Int number ∷ values.Text bytes ∷ [] =
    second ∙ ap (λ (l : List Value). l ++ values.Text text ∷ []) first ∙ ap (λ (t : List ℕ). values.Int number ∷ values.Text t ∷ []) same in
    subst P (sym is) (record { have = refl; each = (fits, ((All-from_get_or (λ (b : ℕ). b < 256) bytes 0 (λ i within. omega (arith, small i)), short), tt)) })
