-- What the reader of digits may answer, from those that it has read.
use Rattle.std.proofs.Common.{◌≡◌, ◌⊎◌, inl, inr, ℕ, zero, suc, ◌+◌, ◌-◌, ◌*◌, ◌/◌, ◌%◌, ◌^◌, ◌<◌, ◌≤◌, true, false, List, [], ◌∷◌, ◌++◌, length, take, drop, get_or, refl, sym, ap, ◌∙◌, arith, subst, append_assoc, append-nil, eq-zero-or-pos}
use Rattle.std.specs.Fmt.{decimal}
use Rattle.std.specs.Char.{digit_value, is_ascii_digit}
use Rattle.std.specs.Str.Parse.{AllDigits, IsNumeral, digits_value}
use Rattle.std.proofs.lemmas.Str.Parse.{digit_from_value}
use Rattle.std.proofs.lemmas.Str.{digit_value_digit}
use Rattle.std.proofs.lemmas.Fmt.{decimal_is_IsNumeral, first_decimal, decimal_step, decimal_digit}
use Rattle.std.proofs.lemmas.Int.Digits.{digits_value_push}
use Rattle.std.proofs.lemmas.Bool.Decides.{nat_tests}
use Rattle.std.proofs.lemmas.List.{take_more, length-take-le}
use Rattle.flux_values.specs.Reading.{NoDigitFirst}
use Rattle.bencoding.specs.steps.Places.{CanGrow, Follows, IsStuck}
use Rattle.bencoding.specs.steps.Numbers.{Starts, IsEnded, AreDigits}
use Rattle.bencoding.proofs.Growing.{begun_of, starts_of}

-- ---- digits

digit_code : (c : ℕ) → digit_value c < 10 → is_ascii_digit c ≡ true
digit_code c h = let r = digit_from_value c h in grind (arith, nat_tests)

pub no_digit : (c : ℕ) → digit_value c < 10 → is_ascii_digit c ≡ false → ⊥
no_digit c h none = let e : true ≡ false = sym (digit_code c h) ∙ none in absurd cc

-- a digit's value is what it is above `0`
pub digit_of : (c : ℕ) → is_ascii_digit c ≡ true → (digit_value c < 10) × (c - 48 ≡ digit_value c)
digit_of c e =
    let low : 48 ≤ c = grind (arith, nat_tests) in
    let high : c ≤ 57 = grind (arith, nat_tests) in
    let value = digit_value_digit c (low, high) in
    (omega (arith, value, high), omega (arith, value, low))

pub no_first : (bytes : List ℕ) (at : ℕ) → at < length bytes → is_ascii_digit (get_or bytes at 0) ≡ false
    → NoDigitFirst (drop at bytes)
no_first [] at lt none = absurd (omega arith)
no_first (b ∷ bytes) zero lt none = none
no_first (b ∷ bytes) (suc at) lt none = no_first bytes at (omega arith) none

pub at_end : (bytes : List ℕ) (at : ℕ) → length bytes ≤ at → NoDigitFirst (drop at bytes)
at_end [] zero le = tt
at_end [] (suc at) le = tt
at_end (b ∷ bytes) zero le = absurd (omega arith)
at_end (b ∷ bytes) (suc at) le = at_end bytes at (omega arith)

-- what follows a place is what is there
pub follows_first : (bytes : List ℕ) (n : ℕ) (y : List ℕ) → Follows (drop n bytes) y → 0 < length y
    → (n < length bytes) × (get_or bytes n 0 ≡ get_or y 0 0)
follows_first [] zero y follows some = absurd (omega (arith, ap length follows))
follows_first [] (suc n) y follows some = absurd (omega (arith, ap length follows))
follows_first (b ∷ bytes) zero y follows some = (omega arith, sym (ap (λ l. get_or l 0 0) follows))
follows_first (b ∷ bytes) (suc n) y follows some = let on = follows_first bytes n y follows some in
    (omega (arith, on.0), on.1)

pub head_is : {x y : List ℕ} → x ≡ y → get_or x 0 0 ≡ get_or y 0 0
head_is e = ap (λ l. get_or l 0 0) e

-- digits of a number that is ended, as far as they were read
pub record GoOn (ds p y z : List ℕ) (end : ℕ) : Type 0 where
  pub more : List ℕ
  pub whole : ds ≡ p ++ more
  pub left : y ≡ more ++ end ∷ z

pub go_on : (p ds y z : List ℕ) (end : ℕ) → AllDigits 10 p → is_ascii_digit end ≡ false → p ++ y ≡ ds ++ end ∷ z
    → GoOn ds p y z end
go_on [] ds y z end all none e = record { more = ds; whole = refl; left = e }
go_on (d ∷ p) [] y z end all none e =
    absurd (no_digit d all.0 (subst (λ c. is_ascii_digit c ≡ false) (sym (head_is e)) none))
go_on (d ∷ p) (c ∷ ds) y z end all none e =
    let on = go_on p ds y z end all.1 none (ap (drop 1) e) in
    let same : c ≡ d = sym (head_is e) in
    record { more = on.more; whole = cc (same, on.whole); left = on.left }

pub numeral_of : (n : ℕ) → n < 2 ^ 64 → IsNumeral 10 (decimal n) × (digits_value 10 (decimal n) ≡ n)
numeral_of n small = decimal_is_IsNumeral n small

-- ---- where no digits go on

-- what was read of digits up to a place
pub record AreSoFar (bytes : List ℕ) (low high at number : ℕ) : Type 0 where
  pub within : at ≤ length bytes
  pub digits : AllDigits 10 (take at bytes)
  pub value : number ≡ digits_value 10 (take at bytes)
  pub starts : 0 < at → Starts number low high
  pub spelled : 0 < at → take at bytes ≡ decimal number

pub some_grow : (bytes : List ℕ) (low high at number end : ℕ) → high < 2 ^ 64 → AreSoFar bytes low high at number
    → 0 < at → CanGrow (IsEnded low high end) (take at bytes)
some_grow bytes low high at number end small far some =
    let b = begun_of number low high small (far.starts some) in
    record {
      more = b.more ++ end ∷ [];
      grown = record {
        number = b.whole;
        least = b.least;
        most = b.most;
        spelled = sym (append_assoc (take at bytes) b.more (end ∷ []))
            ∙ ap (λ l. (l ++ b.more) ++ end ∷ []) (far.spelled some) ∙ ap (λ l. l ++ end ∷ []) (sym b.spelled);
      };
    }

-- how a text of the set goes on from the digits
went : (bytes : List ℕ) (low high at number end : ℕ) (y z s : List ℕ) → AreSoFar bytes low high at number
    → is_ascii_digit end ≡ false → (e : IsEnded low high end s) → take at bytes ++ y ≡ s ++ z
    → GoOn (decimal e.number) (take at bytes) y z end
went bytes low high at number end y z s far none e is =
    go_on (take at bytes) (decimal e.number) y z end far.digits none (is ∙ ap (λ l. l ++ z) e.spelled
    ∙ append_assoc (decimal e.number) (end ∷ []) z)

digits_behind : (xs ys : List ℕ) → AllDigits 10 (xs ++ ys) → AllDigits 10 ys
digits_behind [] ys all = all
digits_behind (x ∷ xs) ys all = digits_behind xs ys all.1

-- no digit follows, and the number is none or too small
quiet : (bytes : List ℕ) (low high at number end : ℕ) (y z s : List ℕ) → high < 2 ^ 64
    → AreSoFar bytes low high at number → NoDigitFirst (drop at bytes) → (at ≡ 0) ⊎ (number < low)
    → is_ascii_digit end ≡ false
    → IsEnded low high end s → Follows (drop at bytes) y → take at bytes ++ y ≡ s ++ z → ⊥
quiet bytes low high at number end y z s small far nothing few none e follows is = by on.more on.whole on.left
  where
    on : GoOn (decimal e.number) (take at bytes) y z end
    on = went bytes low high at number end y z s far none e is

    numeral : IsNumeral 10 (decimal e.number) × (digits_value 10 (decimal e.number) ≡ e.number)
    numeral = numeral_of e.number (omega (arith, e.most))

    no_more : decimal e.number ≡ take at bytes → (at ≡ 0) ⊎ (number < low) → ⊥
    no_more same (inl start) = omega (arith, numeral.0.0, ap length same, ap (λ n. length (take n bytes)) start)
    no_more same (inr less) = omega (arith, less, far.value, ap (digits_value 10) same, numeral.1, e.least)

    first : (q : List ℕ) (d : ℕ) (rest : List ℕ) → NoDigitFirst q → Follows q y → y ≡ d ∷ rest → digit_value d < 10 → ⊥
    first [] d rest none_ follows_ left small_ = let f : [] ≡ d ∷ rest = sym follows_ ∙ left in absurd cc
    first (c ∷ q) d rest none_ follows_ left small_ =
        no_digit d small_ (subst (λ b. is_ascii_digit b ≡ false) (head_is (sym follows_ ∙ left)) none_)

    by : (more : List ℕ) → decimal e.number ≡ take at bytes ++ more → y ≡ more ++ end ∷ z → ⊥
    by [] whole left = no_more (whole ∙ append-nil (take at bytes)) few
    by (d ∷ more) whole left = first (drop at bytes) d (more ++ end ∷ z) nothing follows left
        (digits_behind (take at bytes) (d ∷ more) (subst (AllDigits 10) whole numeral.0.1)).0

pub quiet_stuck : (bytes : List ℕ) (low high at number : ℕ) → high < 2 ^ 64 → AreSoFar bytes low high at number
    → NoDigitFirst (drop at bytes) → (at ≡ 0) ⊎ (number < low) → (end : ℕ) → is_ascii_digit end ≡ false
    → IsStuck (IsEnded low high end) bytes at
quiet_stuck bytes low high at number small far nothing few end none = record {
  within = far.within;
  grows = some_grow bytes low high at number end small far;
  stops = λ y z s e follows is. quiet bytes low high at number end y z s small far nothing few none e follows is;
}

-- a digit follows
first_of : (bytes : List ℕ) (at : ℕ) → at < length bytes → (y : List ℕ) → Follows (drop at bytes) y
    → y ≡ get_or bytes at 0 ∷ drop 1 y
first_of [] at lt y follows = absurd (omega arith)
first_of (b ∷ bytes) zero lt y follows = follows
first_of (b ∷ bytes) (suc at) lt y follows = first_of bytes at (omega arith) y follows

-- a digit after a leading zero
leading : (bytes : List ℕ) (low high at number end : ℕ) (y z s : List ℕ) → high < 2 ^ 64
    → AreSoFar bytes low high at number → at < length bytes → digit_value (get_or bytes at 0) < 10 → 0 < at
    → number ≡ 0 → is_ascii_digit end ≡ false
    → IsEnded low high end s → Follows (drop at bytes) y → take at bytes ++ y ≡ s ++ z → ⊥
leading bytes low high at number end y z s small far lt digit some none_ none e follows is =
    elim (eq-zero-or-pos e.number) as (λ _. ⊥) [
      | inl zero_ ↦ by on.more (sym (ap decimal zero_ ∙ decimal_digit 0 (omega arith)) ∙ on.whole
          ∙ ap (λ l. l ++ on.more) front) on.left
      | inr above ↦ omega (
        arith,
        first_decimal e.number above (omega (arith, e.most)),
        head_is (on.whole
            ∙ ap (λ l. l ++ on.more) front),
      )
    ]
  where
    on : GoOn (decimal e.number) (take at bytes) y z end
    on = went bytes low high at number end y z s far none e is

    front : take at bytes ≡ 48 ∷ []
    front = far.spelled some ∙ ap decimal none_ ∙ decimal_digit 0 (omega arith)

    by : (more : List ℕ) → 48 ∷ [] ≡ 48 ∷ more → y ≡ more ++ end ∷ z → ⊥
    by [] whole left = no_digit (get_or bytes at 0) digit
        (subst (λ b. is_ascii_digit b ≡ false) (sym (head_is (sym (first_of bytes at lt y follows) ∙ left))) none)
    by (d ∷ more) whole left = omega (arith, ap length whole)

pub leading_stuck : (bytes : List ℕ) (low high at number : ℕ) → high < 2 ^ 64 → AreSoFar bytes low high at number
    → at < length bytes → digit_value (get_or bytes at 0) < 10 → 0 < at → number ≡ 0 → (end : ℕ)
    → is_ascii_digit end ≡ false → IsStuck (IsEnded low high end) bytes at
leading_stuck bytes low high at number small far lt digit some none_ end none = record {
  within = far.within;
  grows = some_grow bytes low high at number end small far;
  stops = λ y z s e follows is. leading bytes low high at number end y z s small far lt digit some none_ none e follows
      is;
}

all_more : (bytes : List ℕ) (at : ℕ) → at < length bytes → AllDigits 10 (take at bytes)
    → digit_value (get_or bytes at 0) < 10 → AllDigits 10 (take (at + 1) bytes)
all_more bytes at lt all digit = subst (AllDigits 10) (sym (take_more bytes at 0 lt)) (onto (take at bytes) all)
  where
    onto : (xs : List ℕ) → AllDigits 10 xs → AllDigits 10 (xs ++ get_or bytes at 0 ∷ [])
    onto [] all_ = (digit, tt)
    onto (x ∷ xs) all_ = (all_.0, onto xs all_.1)

value_more : (bytes : List ℕ) (at number : ℕ) → at < length bytes → number ≡ digits_value 10 (take at bytes)
    → digits_value 10 (take (at + 1) bytes) ≡ number * 10 + digit_value (get_or bytes at 0)
value_more bytes at number lt value = ap (digits_value 10) (take_more bytes at 0 lt)
    ∙ digits_value_push 10 (take at bytes) (get_or bytes at 0)
    ∙ ap (λ n. n * 10 + digit_value (get_or bytes at 0)) (sym value)

-- a digit that begins no number within the bounds
outgrown : (bytes : List ℕ) (low high at number end : ℕ) (y z s : List ℕ) → high < 2 ^ 64
    → AreSoFar bytes low high at number → at < length bytes → digit_value (get_or bytes at 0) < 10
    → (Starts (number * 10 + digit_value (get_or bytes at 0)) low high → ⊥) → is_ascii_digit end ≡ false
    → IsEnded low high end s → Follows (drop at bytes) y → take at bytes ++ y ≡ s ++ z → ⊥
outgrown bytes low high at number end y z s small far lt digit none_ none e follows is =
    let c = get_or bytes at 0 in
    let p = take (at + 1) bytes in
    let all = all_more bytes at lt far.digits digit in
    let laid : p ++ drop 1 y ≡ take at bytes ++ y =
    ap (λ l. l ++ drop 1 y) (take_more bytes at 0 lt) ∙ append_assoc (take at bytes) (c ∷ []) (drop 1 y)
    ∙ ap (λ l. take at bytes ++ l) (sym (first_of bytes at lt y follows)) in
    let on = go_on p (decimal e.number) (drop 1 y) z end all none (laid ∙ is ∙ ap (λ l. l ++ z) e.spelled
    ∙ append_assoc (decimal e.number) (end ∷ []) z) in
    let starts = starts_of p low high (omega (arith, length-take-le (at + 1) bytes (omega arith))) small
    (record { whole = e.number; more = on.more; least = e.least; most = e.most; spelled = on.whole }) in
    none_ (subst (λ n. Starts n low high) (value_more bytes at number lt far.value) starts)

pub outgrown_stuck : (bytes : List ℕ) (low high at number : ℕ) → high < 2 ^ 64 → AreSoFar bytes low high at number
    → at < length bytes → digit_value (get_or bytes at 0) < 10
    → (Starts (number * 10 + digit_value (get_or bytes at 0)) low high → ⊥) → (end : ℕ) → is_ascii_digit end ≡ false
    → IsStuck (IsEnded low high end) bytes at
outgrown_stuck bytes low high at number small far lt digit none_ end none = record {
  within = far.within;
  grows = some_grow bytes low high at number end small far;
  stops = λ y z s e follows is. outgrown bytes low high at number end y z s small far lt digit none_ none e follows is;
}

-- ---- one digit more

spelled_more : (bytes : List ℕ) (low high at number : ℕ) → AreSoFar bytes low high at number → at < length bytes
    → digit_value (get_or bytes at 0) < 10 → (0 < at → number ≡ 0 → ⊥)
    → number * 10 + digit_value (get_or bytes at 0) < 2 ^ 64
    → take (at + 1) bytes ≡ decimal (number * 10 + digit_value (get_or bytes at 0))
spelled_more bytes low high at number far lt digit lead small = take_more bytes at 0 lt ∙ by (eq-zero-or-pos at)
  where
    is : 48 + digit_value (get_or bytes at 0) ≡ get_or bytes at 0
    is = let range = digit_from_value (get_or bytes at 0) digit in
        omega (arith, digit_value_digit (get_or bytes at 0) range, range)

    by : (at ≡ 0) ⊎ (0 < at) → take at bytes ++ get_or bytes at 0 ∷ []
        ≡ decimal (number * 10 + digit_value (get_or bytes at 0))
    by (inl start) =
        let none : take at bytes ≡ [] = ap (λ n. take n bytes) start in
        let zero_ : number ≡ 0 = far.value ∙ ap (digits_value 10) none in
        ap (λ l. l ++ get_or bytes at 0 ∷ []) none ∙ ap (λ n. n ∷ []) (sym is)
        ∙ sym (decimal_digit (digit_value (get_or bytes at 0)) digit) ∙ ap decimal (omega (arith, zero_))
    by (inr some) =
        let n = number * 10 + digit_value (get_or bytes at 0) in
        let above : 0 < number = elim (eq-zero-or-pos number) as (λ _. 0 < number)
        [ inl zero_ ↦ absurd (lead some zero_) | inr above ↦ above ] in
        let front : n / 10 ≡ number = omega (arith, digit) in
        let end : 48 + n % 10 ≡ get_or bytes at 0 = omega (arith, digit, is) in
        ap (λ l. l ++ get_or bytes at 0 ∷ []) (far.spelled some) ∙ (λ i. decimal (sym front i) ++ (sym end i) ∷ [])
        ∙ sym (decimal_step n (omega arith) small)

pub far_more : (bytes : List ℕ) (low high at number next : ℕ) → AreSoFar bytes low high at number → at < length bytes
    → digit_value (get_or bytes at 0) < 10 → (0 < at → number ≡ 0 → ⊥) → next < 2 ^ 64
    → next ≡ number * 10 + digit_value (get_or bytes at 0) → Starts next low high
    → AreSoFar bytes low high (at + 1) next
far_more bytes low high at number next far lt digit lead small is starts = record {
  within = omega (arith, lt);
  digits = all_more bytes at lt far.digits digit;
  value = is ∙ sym (value_more bytes at number lt far.value);
  starts = λ _. starts;
  spelled = λ _. spelled_more bytes low high at number far lt digit lead (omega (arith, is)) ∙ ap decimal (sym is);
}

-- ---- with an end

pub ended_stuck : (bytes : List ℕ) (low high end number n : ℕ) → high < 2 ^ 64 → is_ascii_digit end ≡ false
    → AreDigits low high bytes number n → (n < length bytes → get_or bytes n 0 ≡ end → ⊥)
    → IsStuck (IsEnded low high end) bytes n
ended_stuck bytes low high end number n small none are other = record {
  within = are.within;
  grows = λ _. record {
    more = end ∷ [];
    grown =
        record { number = number; least = are.least; most = are.most; spelled = ap (λ l. l ++ end ∷ []) are.spelled };
  };
  stops = stops;
}
  where
    all : AllDigits 10 (take n bytes)
    all = subst (AllDigits 10) (sym are.spelled) (numeral_of number (omega (arith, are.most))).0.1

    stops : (y z s : List ℕ) → IsEnded low high end s → Follows (drop n bytes) y → take n bytes ++ y ≡ s ++ z → ⊥
    stops y z s e follows is = by on.more on.whole on.left
      where
        on : GoOn (decimal e.number) (take n bytes) y z end
        on = go_on (take n bytes) (decimal e.number) y z end all none (is ∙ ap (λ l. l ++ z) e.spelled
            ∙ append_assoc (decimal e.number) (end ∷ []) z)

        first : (q : List ℕ) (d : ℕ) (rest : List ℕ) → NoDigitFirst q → Follows q y → y ≡ d ∷ rest → digit_value d < 10
            → ⊥
        first [] d rest none_ follows_ left small_ = let f : [] ≡ d ∷ rest = sym follows_ ∙ left in absurd cc
        first (c ∷ q) d rest none_ follows_ left small_ =
            no_digit d small_ (subst (λ b. is_ascii_digit b ≡ false) (head_is (sym follows_ ∙ left)) none_)

        by : (more : List ℕ) → decimal e.number ≡ take n bytes ++ more → y ≡ more ++ end ∷ z → ⊥
        by [] whole left = let there = follows_first bytes n y follows (omega (arith, ap length left)) in
            other there.0 (there.1 ∙ head_is left)
        by (d ∷ more) whole left = first (drop n bytes) d (more ++ end ∷ z) are.ends follows left
            (digits_behind (take n bytes) (d ∷ more)
            (subst (AllDigits 10) whole (numeral_of e.number (omega (arith, e.most))).0.1)).0
