-- What a node reads of its arguments is a value.
use Rattle.std.proofs.Common.{◌≡◌, ◌≤◌, ◌<◌, ◌^◌, ℕ, ℤ, pos, negsuc, true, List, [], ◌∷◌, length, refl, arith, suc}
use Rattle.std.specs.List.{AllByRecursion}
use Rattle.std.specs.Fmt.{signed_decimal}
use Rattle.std.proofs.lemmas.Fmt.{length-decimal-le}
use Rattle.std.proofs.lemmas.Bool.Decides.{nat_tests}
use Rattle.std.proofs.lemmas.Int.{ints}
use Rattle.std.proofs.lemmas.List.Elements.{All-nil}
use Rattle.flux_values.specs.declared.values.Value.{Value}
use Rattle.flux_values.specs.declared.values.Value.TheVariants as values
use Rattle.flux_values.specs.Reading.{IsValue}
use Rattle.nodes_shortener.specs.Arguments.{first_number, second_number, first_text, second_text, fits}

-- a number that fits is a value
pub fits_sound : (z : ℤ) → fits z ≡ true → IsValue (values.Int z)
fits_sound (pos n) e = let lt : n < 2 ^ 63 = grind (arith, nat_tests) in omega (arith, ints)
fits_sound (negsuc n) e = let lt : n < 2 ^ 63 = grind (arith, nat_tests) in omega (arith, ints)

-- 0 is a value
pub zero_valid : IsValue (values.Int (pos 0))
zero_valid = fits_sound (pos 0) refl

empty_valid : IsValue (values.Text [])
empty_valid = (All-nil (λ (b : ℕ). b < 256), omega arith)

-- the first number is a value
pub first_valid : (args : List Value) → AllByRecursion IsValue args → IsValue (values.Int (first_number args))
first_valid [] all = zero_valid
first_valid (values.Int z ∷ more) all = all.0
first_valid (values.Bool b ∷ more) all = zero_valid
first_valid (values.Text t ∷ more) all = zero_valid

-- so is the second
pub second_valid : (args : List Value) → AllByRecursion IsValue args → IsValue (values.Int (second_number args))
second_valid [] all = zero_valid
second_valid (v ∷ []) all = zero_valid
second_valid (v ∷ values.Int z ∷ more) all = all.1.0
second_valid (v ∷ values.Bool b ∷ more) all = zero_valid
second_valid (v ∷ values.Text t ∷ more) all = zero_valid

-- the first text is one
pub first_text_valid : (args : List Value) → AllByRecursion IsValue args → IsValue (values.Text (first_text args))
first_text_valid [] all = empty_valid
first_text_valid (values.Text t ∷ more) all = all.0
first_text_valid (values.Int z ∷ more) all = empty_valid
first_text_valid (values.Bool b ∷ more) all = empty_valid

-- so is the second
pub second_text_valid : (args : List Value) → AllByRecursion IsValue args → IsValue (values.Text (second_text args))
second_text_valid [] all = empty_valid
second_text_valid (v ∷ []) all = empty_valid
second_text_valid (v ∷ values.Text t ∷ more) all = all.1.0
second_text_valid (v ∷ values.Int z ∷ more) all = empty_valid
second_text_valid (v ∷ values.Bool b ∷ more) all = empty_valid

-- a number has at most 21 bytes in decimal
pub number_short : (z : ℤ) → IsValue (values.Int z) → length (signed_decimal z) ≤ 21
number_short (pos n) valid =
    let le = length-decimal-le 20 n (omega arith) (omega arith) (omega arith) in omega (arith, le)
number_short (negsuc n) valid =
    let le = length-decimal-le 20 (suc n) (omega arith) (omega arith) (omega arith) in omega (arith, le)
