-- Texts each of whose bytes means itself.
use Rattle.std.proofs.Common.{◌≡◌, ℕ, Bool, true, false, ◌&&◌, List, [], ◌∷◌, ◌++◌, refl, ap, ◌∙◌, arith}
use Rattle.std.specs.List.{list_all, flat_map}
use Rattle.std.proofs.lemmas.Bool.Decides.{nat_tests}
use Rattle.flux_values.specs.Texts.{printed_byte}
use Rattle.flux_journal.specs.steps.Quotes.{is_plain_byte}

plain_byte : (b : ℕ) → is_plain_byte b ≡ true → printed_byte b ≡ b ∷ []
unfolding printed_byte
plain_byte b plain = grind (arith, nat_tests)

both : (a b : Bool) → (a && b) ≡ true → (a ≡ true) × (b ≡ true)
both true b h = (refl, h)
both false b h = absurd cc

-- such a text is spelled by its own bytes
pub plain_is : (text : List ℕ) → list_all is_plain_byte text ≡ true → flat_map printed_byte text ≡ text
plain_is [] plain = refl
plain_is (b ∷ text) plain =
    let (first, rest) = both (is_plain_byte b) (list_all is_plain_byte text) plain in
    ap (λ (s : List ℕ). s ++ flat_map printed_byte text) (plain_byte b first) ∙ ap (λ (s : List ℕ). b ∷ s) (plain_is text rest)
