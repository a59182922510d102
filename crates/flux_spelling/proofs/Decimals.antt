-- Decimal numbers without a leading zero at the front of bytes.
use Rattle.std.proofs.Common.{◌≡◌, inl, inr, ℕ, zero, suc, ◌+◌, ◌<◌, ◌≤◌, ◌^◌, List, [], ◌∷◌, ◌++◌, length, take, drop, get_or, Err, refl, sym, ap, ◌∙◌, arith, subst}
use Rattle.std.specs.Fmt.{decimal}
use Rattle.std.specs.Str.Parse.{AllDigits, digits_value}
use Rattle.std.proofs.lemmas.Fmt.{decimal_is_IsNumeral, decimal-digits_value, decimal_digit, first_decimal}
use Rattle.std.proofs.lemmas.Str.Parse.{IsNumeralModel, digits_value-take-le}
use Rattle.std.proofs.lemmas.List.{length-append, length-take-le, take-append-drop, append-nil, get_or-take, append_cancel_left}
use Rattle.std.proofs.Math.Seq.{take-append_seam}
use Rattle.flux_values.specs.Reading.{NoDigitFirst}
use Rattle.flux_values.specs.Spellings.{BeginsDecimal}
use Rattle.flux_spelling.specs.steps.Numbers.{AreDigits, AreDigitsRead}
use Rattle.flux_spelling.proofs.NumbersRead.{digits_past, no_digit_first}

own : IsNumeralModel (AllDigits 10) (digits_value 10)
own = record { to = λ ds all. all; from = λ ds all. all; same = λ ds all. refl }

-- the digits at the front are the number's
pub decimal_taken : (bytes : List ℕ) (limit m n : ℕ) → limit < 2 ^ 64 → AreDigits bytes limit m n → (get_or bytes 0 0 ≡ 48 → n ≤ 1) → BeginsDecimal bytes limit m n
decimal_taken bytes limit m n small ds first =
    let long : length (take n bytes) ≡ n = length-take-le n bytes ds.within in
    let some : 0 < n = omega (arith, long, ds.numeral.0) in
    let is : decimal m ≡ take n bytes = ap decimal ds.value ∙ decimal-digits_value own (take n bytes) ds.numeral.1 ds.numeral.0 (λ zero_. omega (arith, long, some, first (sym (get_or-take n bytes 0 0 some) ∙ zero_))) (omega (arith, small, ds.small, ds.value)) in
    record {
      rest = drop n bytes;
      small = ds.small;
      front = sym (take-append-drop n bytes) ∙ ap (λ (l : List ℕ). l ++ drop n bytes) (sym is);
      ends = ds.ends;
      long = sym long ∙ ap length (sym is);
    }

same_digits : (ds es more others : List ℕ) → es ≡ ds ++ more → ds ≡ es ++ others → ds ≡ es
same_digits ds es [] others e f = sym (e ∙ append-nil ds)
same_digits ds es (c ∷ more) others e f = absurd (omega (arith, ap length e, ap length f, length-append ds (c ∷ more), length-append es others))

-- digits up to what is none are the same digits
digits_same : (ds es rest tail : List ℕ) → AllDigits 10 ds → AllDigits 10 es → NoDigitFirst rest → NoDigitFirst tail → ds ++ rest ≡ es ++ tail → ds ≡ es
digits_same ds es rest tail all each none end e =
    let there = digits_past ds es rest tail all each end (sym e) in
    let back = digits_past es ds tail rest each all none e in
    same_digits ds es there.more back.more there.whole back.whole

taken_is : (bytes : List ℕ) (limit m n k j : ℕ) → limit < 2 ^ 64 → AreDigits bytes limit m n → BeginsDecimal bytes limit k j → take n bytes ≡ decimal k
taken_is bytes limit m n k j small ds begins =
    let d = decimal_is_IsNumeral k (omega (arith, small, begins.small)) in
    digits_same (take n bytes) (decimal k) (drop n bytes) begins.rest ds.numeral.1 d.0.1 ds.ends begins.ends (take-append-drop n bytes ∙ begins.front)

zero_first : (k : ℕ) → k < 2 ^ 64 → 1 < length (decimal k) → get_or (decimal k) 0 0 ≡ 48 → ⊥
zero_first zero small long first = let one : length (decimal 0) ≡ 1 = ap length (decimal_digit 0 (omega arith)) in omega (arith, long, one)
zero_first (suc k) small long first = let more = first_decimal (suc k) (omega arith) small in omega (arith, more, first)

-- none begins with a zero and goes on
pub none_with_zero : (bytes : List ℕ) (limit m n : ℕ) → limit < 2 ^ 64 → AreDigits bytes limit m n → 1 < n → get_or bytes 0 0 ≡ 48 → (k j : ℕ) → BeginsDecimal bytes limit k j → ⊥
none_with_zero bytes limit m n small ds more first k j begins =
    let is = taken_is bytes limit m n k j small ds begins in
    zero_first k (omega (arith, small, begins.small)) (omega (arith, more, length-take-le n bytes ds.within, ap length is)) (ap (λ (l : List ℕ). get_or l 0 0) (sym is) ∙ get_or-take n bytes 0 0 (omega arith) ∙ first)

great : (limit : ℕ) (ds more : List ℕ) (m : ℕ) → m ≡ digits_value 10 (ds ++ more) → m ≤ limit → limit < digits_value 10 ds → ⊥
great limit ds more m is small large =
    let low : digits_value 10 (take (length ds) (ds ++ more)) ≤ digits_value 10 (ds ++ more) = digits_value-take-le 10 (ds ++ more) (length ds) (omega arith) in
    let same : digits_value 10 (take (length ds) (ds ++ more)) ≡ digits_value 10 ds = ap (digits_value 10) (take-append_seam ds more) in
    omega arith

-- none where no digits were read
pub none_read : (bytes : List ℕ) (limit at : ℕ) → limit < 2 ^ 64 → AreDigitsRead (Err at) bytes limit → (k j : ℕ) → BeginsDecimal bytes limit k j → ⊥
none_read bytes limit at small read k j begins =
    let d = decimal_is_IsNumeral k (omega (arith, small, begins.small)) in
    elim read [
      | inl none ↦ no_digit_first (decimal k) begins.rest d.0 (subst NoDigitFirst begins.front none.1)
      | inr many ↦
          let past = digits_past (take (at + 1) bytes) (decimal k) (drop (at + 1) bytes) begins.rest many.digits d.0.1 begins.ends (sym begins.front ∙ sym (take-append-drop (at + 1) bytes)) in
          great limit (take (at + 1) bytes) past.more k (sym d.1 ∙ ap (digits_value 10) past.whole) begins.small many.great
    ]

-- ---- one number begins bytes

pub one_decimal : (limit k j : ℕ) (rest tail : List ℕ) → limit < 2 ^ 64 → k ≤ limit → j ≤ limit → NoDigitFirst rest → NoDigitFirst tail → decimal k ++ rest ≡ decimal j ++ tail → (k ≡ j) × (rest ≡ tail)
one_decimal limit k j rest tail small first second none end e =
    let d = decimal_is_IsNumeral k (omega (arith, small, first)) in
    let f = decimal_is_IsNumeral j (omega (arith, small, second)) in
    let same = digits_same (decimal k) (decimal j) rest tail d.0.1 f.0.1 none end e in (
      sym d.1 ∙ ap (digits_value 10) same ∙ f.1,
      append_cancel_left (decimal j) rest tail (ap (λ (l : List ℕ). l ++ rest) (sym same) ∙ e),
    )
