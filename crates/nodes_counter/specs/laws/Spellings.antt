-- The number that bytes spell is the one whose spelling they are.
use Rattle.std.proofs.Common.{◌≡◌, ◌↔◌, ℕ, ℤ, pos, negsuc, ◌==◌, ◌&&◌, ◌<◌, ◌^◌, Bool, true, false, List, [], ◌∷◌, ◌++◌, Option, Some, None, FitsSigned, refl, sym, ap, ◌∙◌, subst, arith}
use Rattle.std.specs.Int.{w64}
use Rattle.std.specs.List.{list_all}
use Rattle.std.specs.Char.{digit_value, is_ascii_digit}
use Rattle.std.specs.Str.Parse.{AllDigits, IsNumeral, digits_value}
use Rattle.std.proofs.lemmas.Str.Parse.{digit_from_value}
use Rattle.std.proofs.lemmas.Bool.Decides.{nat_tests}
use Rattle.std.proofs.lemmas.Int.{ints}
use Rattle.flux_values.specs.declared.values.Value.TheVariants.{Int}
use Rattle.flux_values.specs.Spellings.{minus, with_sign, Spells}
use Rattle.nodes_counter.specs.Numbers.{fits, is_numeral, signed_int, int_spelled}

-- the test of 64 bits
pub fits_sound : (z : ℤ) → fits z ≡ true → FitsSigned w64 z
fits_sound (pos n) e = let lt : n < 2 ^ 63 = grind (arith, nat_tests) in omega (arith, ints)
fits_sound (negsuc n) e = let lt : n < 2 ^ 63 = grind (arith, nat_tests) in omega (arith, ints)

pub fits_complete : (z : ℤ) → FitsSigned w64 z → fits z ≡ true
fits_complete (pos n) h = let lt : n < 2 ^ 63 = omega (arith, ints) in grind (arith, nat_tests)
fits_complete (negsuc n) h = let lt : n < 2 ^ 63 = omega (arith, ints) in grind (arith, nat_tests)

-- the test of digits
digit_sound : (c : ℕ) → is_ascii_digit c ≡ true → digit_value c < 10
digit_sound c is = grind (arith, nat_tests)

digit_complete : (c : ℕ) → digit_value c < 10 → is_ascii_digit c ≡ true
digit_complete c h = let r = digit_from_value c h in grind (arith, nat_tests)

and_left : (a b : Bool) → (a && b) ≡ true → a ≡ true
and_left true b e = refl
and_left false b e = absurd cc

and_right : (a b : Bool) → (a && b) ≡ true → b ≡ true
and_right true b e = e
and_right false b e = absurd cc

digits_sound : (ds : List ℕ) → list_all is_ascii_digit ds ≡ true → AllDigits 10 ds
digits_sound [] e = tt
digits_sound (d ∷ ds) e = (digit_sound d (and_left (is_ascii_digit d) (list_all is_ascii_digit ds) e), digits_sound ds (and_right (is_ascii_digit d) (list_all is_ascii_digit ds) e))

digits_complete : (ds : List ℕ) → AllDigits 10 ds → list_all is_ascii_digit ds ≡ true
digits_complete [] all = refl
digits_complete (d ∷ ds) all = rw (digit_complete d all.0) (digits_complete ds all.1)

numeral_sound : (ds : List ℕ) → is_numeral ds ≡ true → IsNumeral 10 ds
numeral_sound [] e = absurd cc
numeral_sound (d ∷ ds) e = (omega arith, digits_sound (d ∷ ds) e)

numeral_complete : (ds : List ℕ) → IsNumeral 10 ds → is_numeral ds ≡ true
numeral_complete [] numeral = absurd (let some = numeral.0 in omega arith)
numeral_complete (d ∷ ds) numeral = digits_complete (d ∷ ds) numeral.1

-- ---- spellings

signed_sound : (negative : Bool) (ds : List ℕ) (z : ℤ) → signed_int negative ds ≡ Some z → Spells (minus negative ++ ds) (Int z)
signed_sound negative ds z e = both (is_numeral ds) refl (fits (with_sign negative (digits_value 10 ds))) refl
  where
    both : (a : Bool) → is_numeral ds ≡ a → (b : Bool) → fits (with_sign negative (digits_value 10 ds)) ≡ b → Spells (minus negative ++ ds) (Int z)
    both true p true q =
        let is : Some (with_sign negative (digits_value 10 ds)) ≡ Some z = rw (p, q) at e in
        let same : with_sign negative (digits_value 10 ds) ≡ z = cc in
        record {
          is_value = subst (FitsSigned w64) same (fits_sound (with_sign negative (digits_value 10 ds)) q);
          form = record { negative = negative; digits = ds; numeral = numeral_sound ds p; laid = refl; value = sym same };
        }
    both true p false q = absurd (let none : None ≡ Some z = rw (p, q) at e in cc)
    both false p b q = absurd (let none : None ≡ Some z = rw p at e in cc)

signed_complete : (negative : Bool) (ds : List ℕ) (z : ℤ) → IsNumeral 10 ds → FitsSigned w64 z → z ≡ with_sign negative (digits_value 10 ds) → signed_int negative ds ≡ Some z
signed_complete negative ds z numeral fits_ value = rw (numeral_complete ds numeral, fits_complete (with_sign negative (digits_value 10 ds)) (subst (FitsSigned w64) value fits_)) (ap Some (sym value))

pub int_sound : (bytes : List ℕ) (z : ℤ) → int_spelled bytes ≡ Some z → Spells bytes (Int z)
int_sound [] z e = absurd cc
int_sound (b ∷ bytes) z e = sign (b == 45) refl
  where
    sign : (t : Bool) → (b == 45) ≡ t → Spells (b ∷ bytes) (Int z)
    sign true p =
        let is : b ≡ 45 = grind (arith, nat_tests) in
        subst (λ (c : ℕ). Spells (c ∷ bytes) (Int z)) (sym is) (signed_sound true bytes z (rw p at e))
    sign false p = signed_sound false (b ∷ bytes) z (rw p at e)

laid_complete : (negative : Bool) (ds : List ℕ) (z : ℤ) → IsNumeral 10 ds → FitsSigned w64 z → z ≡ with_sign negative (digits_value 10 ds) → int_spelled (minus negative ++ ds) ≡ Some z
laid_complete true ds z numeral fits_ value = signed_complete true ds z numeral fits_ value
laid_complete false [] z numeral fits_ value = absurd (let some = numeral.0 in omega arith)
laid_complete false (d ∷ ds) z numeral fits_ value =
    let r = digit_from_value d numeral.1.0 in
    let other : (d == 45) ≡ false = grind (arith, nat_tests) in
    rw other (signed_complete false (d ∷ ds) z numeral fits_ value)

pub int_complete : (bytes : List ℕ) (z : ℤ) → Spells bytes (Int z) → int_spelled bytes ≡ Some z
int_complete bytes z spells =
    let form = spells.form in
    ap int_spelled form.laid ∙ laid_complete form.negative form.digits z form.numeral spells.is_value form.value

-- the number that is found is the one whose spelling the bytes are
pub spelled_exactly : (bytes : List ℕ) (found : Option ℤ) → found ≡ int_spelled bytes → (z : ℤ) → (found ≡ Some z) ↔ Spells bytes (Int z)
spelled_exactly bytes found e z = (λ is. int_sound bytes z (sym e ∙ is), λ spells. e ∙ int_complete bytes z spells)
