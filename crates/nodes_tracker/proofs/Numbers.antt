-- The number that all of some bytes spell in decimal digits.
use Rattle.std.proofs.Common.{◌≡◌, ℕ, ◌<◌, ◌≤◌, ◌^◌, ◌&&◌, Bool, true, false, cond, leb, List, [], ◌∷◌, ◌++◌, length, Some, None, refl, sym, ap, ◌∙◌, subst, arith, length-append, append-nil}
use Rattle.std.specs.Char.{is_ascii_digit}
use Rattle.std.specs.Fmt.{decimal}
use Rattle.std.specs.Str.{bytes_eq}
use Rattle.std.specs.Str.Parse.{AllDigits, digits_value}
use Rattle.std.proofs.lemmas.Bool.{leb-true}
use Rattle.std.proofs.lemmas.Bool.Decides.{nat_tests}
use Rattle.std.proofs.lemmas.Fmt.{decimal_is_IsNumeral, decimal_injective}
use Rattle.std.proofs.lemmas.Slice.Eq.{bytes_eq-Decides}
use Rattle.std.proofs.lemmas.Str.Parse.{digit_from_value}
use Rattle.flux_values.specs.Reading.{NoDigitFirst}
use Rattle.flux_values.specs.Spellings.{BeginsDecimal}
use Rattle.nodes_tracker.specs.Asks.{number_within}
use Rattle.nodes_tracker.specs.laws.Swarms.{and_left, and_right}

-- ---- what the definition says

number_at : (low high m : ℕ) (digits : List ℕ) → digits_value 10 digits ≡ m → leb low m ≡ true → leb m high ≡ true
    → bytes_eq digits (decimal m) ≡ true → number_within low high digits ≡ Some m
number_at low high m digits value least most same = rw (value, least, most, same) refl

number_is : (low high n : ℕ) (digits : List ℕ) → digits ≡ decimal n → low ≤ n → n ≤ high → n < 2 ^ 64
    → Some n ≡ number_within low high digits
number_is low high n digits is least most small =
    let value : digits_value 10 digits ≡ n = ap (digits_value 10) is ∙ (decimal_is_IsNumeral n small).1 in
    let one : leb low n ≡ true = grind (arith, nat_tests) in
    let two : leb n high ≡ true = grind (arith, nat_tests) in
    sym (number_at low high n digits value one two ((bytes_eq-Decides digits (decimal n)).1 is))

number_none : (low high : ℕ) (digits : List ℕ) → ((n : ℕ) → low ≤ n → n ≤ high → digits ≡ decimal n → ⊥)
    → None ≡ number_within low high digits
number_none low high digits none = one ((leb low n && leb n high) && bytes_eq digits (decimal n)) refl
  where
    n : ℕ
    n = digits_value 10 digits

    one : (b : Bool) → ((leb low n && leb n high) && bytes_eq digits (decimal n)) ≡ b → None ≡ cond b (Some n) None
    one false e = refl
    one true e =
        let bounds = and_left (leb low n && leb n high) (bytes_eq digits (decimal n)) e in
        absurd (none n (leb-true low n (and_left (leb low n) (leb n high) bounds))
        (leb-true n high (and_right (leb low n) (leb n high) bounds))
        ((bytes_eq-Decides digits (decimal n)).0 (and_right (leb low n && leb n high) (bytes_eq digits (decimal n)) e)))

-- ---- what the reader says

no_rest : (front rest : List ℕ) → length (front ++ rest) ≡ length front → rest ≡ []
no_rest front [] e = refl
no_rest front (b ∷ rest) e = absurd (omega (arith, e, length-append front (b ∷ rest)))

whole : (digits : List ℕ) (high n len : ℕ) → BeginsDecimal digits high n len → len ≡ length digits → digits ≡ decimal n
whole digits high n len begins long =
    let none = no_rest (decimal n) begins.rest (ap length (sym begins.front) ∙ sym long ∙ begins.long) in
    begins.front ∙ ap (λ r. decimal n ++ r) none ∙ append-nil (decimal n)

pub number_read : (low high n len : ℕ) (digits : List ℕ) → BeginsDecimal digits high n len → len ≡ length digits
    → low ≤ n → high < 2 ^ 64 → Some n ≡ number_within low high digits
number_read low high n len digits begins long least small =
    number_is low high n digits (whole digits high n len begins long) least begins.small
    (omega (arith, begins.small, small))

digits_behind : (front rest : List ℕ) → AllDigits 10 (front ++ rest) → AllDigits 10 rest
digits_behind [] rest all = all
digits_behind (d ∷ front) rest all = digits_behind front rest all.1

none_behind : (rest : List ℕ) → NoDigitFirst rest → AllDigits 10 rest → rest ≡ []
none_behind [] none all = refl
none_behind (b ∷ rest) none all =
    let r = digit_from_value b all.0 in
    let is : is_ascii_digit b ≡ true = grind (arith, nat_tests) in
    absurd (let e = sym none ∙ is in cc)

-- a number that all the bytes spell is the one that was read, to their end
only_one : (digits : List ℕ) (high n len m : ℕ) → BeginsDecimal digits high n len → high < 2 ^ 64 → m ≤ high
    → digits ≡ decimal m → (len ≡ length digits) × (n ≡ m)
only_one digits high n len m begins small most is =
    let all = (decimal_is_IsNumeral m (omega (arith, most, small))).0.1 in
    let none = none_behind begins.rest begins.ends
    (digits_behind (decimal n) begins.rest (subst (AllDigits 10) (sym is ∙ begins.front) all)) in
    let same : digits ≡ decimal n = begins.front ∙ ap (λ r. decimal n ++ r) none ∙ append-nil (decimal n) in (
      begins.long ∙ ap length (sym same),
      decimal_injective n m (omega (arith, begins.small, small)) (omega (arith, most, small)) (sym same ∙ is),
    )

-- another number was read, or it ended before the bytes
pub other_read : (low high n len : ℕ) (digits : List ℕ) → BeginsDecimal digits high n len → high < 2 ^ 64
    → (len ≡ length digits → low ≤ n → ⊥) → None ≡ number_within low high digits
other_read low high n len digits begins small other =
    number_none low high digits (λ m least most is. let same = only_one digits high n len m begins small most is in
    other same.0 (omega (arith, least, same.1)))

decimal_begins : (digits : List ℕ) (high m : ℕ) → m ≤ high → digits ≡ decimal m
    → BeginsDecimal digits high m (length (decimal m))
decimal_begins digits high m most is =
    record { rest = []; small = most; front = is ∙ sym (append-nil (decimal m)); ends = tt; long = refl }

pub nothing_read : (low high : ℕ) (digits : List ℕ) → ((n len : ℕ) → BeginsDecimal digits high n len → ⊥)
    → None ≡ number_within low high digits
nothing_read low high digits none =
    number_none low high digits (λ m least most is. none m (length (decimal m)) (decimal_begins digits high m most is))
