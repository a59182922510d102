-- Which numbers begin with the digits of another.
use Rattle.std.proofs.Common.{◌≡◌, ◌⊎◌, inl, inr, ℕ, zero, suc, ◌+◌, ◌*◌, ◌/◌, ◌%◌, ◌^◌, ◌<◌, ◌≤◌, List, [], ◌∷◌, ◌++◌, length, get_or, refl, sym, ap, ◌∙◌, arith, subst, append_assoc, append-nil, pow-suc, mul_comm, div-one, div-le_self, ⊎_elim, eq-zero-or-pos}
use Rattle.std.specs.Fmt.{decimal}
use Rattle.std.specs.Char.{digit_value}
use Rattle.std.specs.Str.Parse.{AllDigits, IsNumeral, digits_value, digits_value_after}
use Rattle.std.proofs.lemmas.Str.Parse.{digit_from_value}
use Rattle.std.proofs.lemmas.Str.{digit_value_digit}
use Rattle.std.proofs.lemmas.Bool.{cases_order}
use Rattle.std.proofs.lemmas.Fmt.{decimal_is_IsNumeral, first_decimal, decimal_step}
use Rattle.std.proofs.Math.Nat.{div-div-eq-div-mul, pow-zero}
use Rattle.bencoding.specs.steps.Numbers.{Grows, Starts}

-- a number within the bounds is the whole one
pub grows_self : (number low high : ℕ) → low ≤ number → number ≤ high → Grows number low high
grows_self number low high least most =
    record {
      turns = 0;
      whole = number;
      least = least;
      most = most;
      front = ap (λ n. number / n) (pow-zero 10)
          ∙ div-one number;
    }

shift : (whole turns : ℕ) → whole / 10 ^ suc turns ≡ whole / 10 / 10 ^ turns
shift whole turns = ap (λ n. whole / n) (pow-suc 10 turns ∙ mul_comm (10 ^ turns) 10)
    ∙ sym (div-div-eq-div-mul whole 10 (10 ^ turns))

-- a number that grows within a tenth of the bounds grows within these
pub grows_more : (number low high : ℕ) → low ≤ high → Grows number (low / 10) (high / 10) → Grows number low high
grows_more number low high order grows =
    ⊎_elim (λ lt. next low (omega (arith, lt)) order (omega (arith, lt, grows.least, grows.most)))
    (λ le. next (10 * grows.whole) (omega (arith, le)) (omega (arith, grows.most)) (omega arith))
    (split (10 * grows.whole) low)
  where
    next : (whole : ℕ) → low ≤ whole → whole ≤ high → whole / 10 ≡ grows.whole → Grows number low high
    next whole least most tenth = record {
      turns = suc grows.turns;
      whole = whole;
      least = least;
      most = most;
      front = shift whole grows.turns
          ∙ ap (λ n. n / 10 ^ grows.turns) tenth ∙ grows.front;
    }

    split : (a b : ℕ) → (a < b) ⊎ (b ≤ a)
    split a b = elim (cases_order a b) as (λ _. (a < b) ⊎ (b ≤ a)) [
      | inl same ↦ inr (omega arith)
      | inr differ ↦ ⊎_elim (λ lt. inl lt) (λ gt. inr (omega (arith, gt))) differ
    ]

-- and back, where it isn't within them
pub grows_less : (number low high : ℕ) → (low ≤ number → ⊥) → Grows number low high
    → Grows number (low / 10) (high / 10)
grows_less number low high other grows = by grows.turns grows.front
  where
    by : (turns : ℕ) → grows.whole / 10 ^ turns ≡ number → Grows number (low / 10) (high / 10)
    by zero front = let same : grows.whole ≡ number = sym (div-one grows.whole)
        ∙ ap (λ n. grows.whole / n) (sym (pow-zero 10)) ∙ front in absurd (other (omega (arith, same, grows.least)))
    by (suc turns) front = record {
      turns = turns;
      whole = grows.whole / 10;
      least = omega (arith, grows.least);
      most =
          omega (arith, grows.most);
      front = sym (shift grows.whole turns) ∙ front;
    }

pub grows_below : (number low high : ℕ) → Grows number low high → number ≤ high
grows_below number low high grows = omega (arith, grows.front, div-le_self grows.whole (10 ^ grows.turns), grows.most)

pub starts_below : (number low high : ℕ) → Starts number low high → number ≤ high
starts_below number low high (inl is) = omega (arith, is.0)
starts_below number low high (inr is) = grows_below number low high is.1

-- ---- as digits

-- a number whose digits begin with another's
pub record Begun (digits : List ℕ) (low high : ℕ) : Type 0 where
  pub whole : ℕ
  pub more : List ℕ
  pub least : low ≤ whole
  pub most : whole ≤ high
  pub spelled : decimal whole ≡ digits ++ more

begun_by : (turns whole number : ℕ) → 0 < number → whole < 2 ^ 64 → whole / 10 ^ turns ≡ number
    → (more : List ℕ) × (decimal whole ≡ decimal number ++ more)
begun_by zero whole number some small front =
    let same : whole ≡ number = sym (div-one whole) ∙ ap (λ n. whole / n) (sym (pow-zero 10)) ∙ front in
    ([], ap decimal same ∙ sym (append-nil (decimal number)))
begun_by (suc turns) whole number some small front =
    let tenth : whole / 10 / 10 ^ turns ≡ number = sym (shift whole turns) ∙ front in
    let ten : 10 ≤ whole = omega (arith, tenth, div-le_self (whole / 10) (10 ^ turns)) in
    let before = begun_by turns (whole / 10) number some (omega arith) tenth in (
      before.0 ++ (48 + whole % 10) ∷ [],
      decimal_step whole ten small ∙ ap (λ l. l ++ (48 + whole % 10) ∷ []) before.1
          ∙ append_assoc (decimal number) before.0 ((48 + whole % 10) ∷ []),
    )

pub begun_of : (number low high : ℕ) → high < 2 ^ 64 → Starts number low high → Begun (decimal number) low high
begun_of number low high small (inl is) =
    record {
      whole = 0;
      more = [];
      least = omega (arith, is.1);
      most = omega arith;
      spelled = ap decimal (sym is.0)
          ∙ sym (append-nil (decimal number));
    }
begun_of number low high small (inr is) =
    let g = is.1 in
    let b = begun_by g.turns g.whole number is.0 (omega (arith, g.most)) g.front in
    record { whole = g.whole; more = b.0; least = g.least; most = g.most; spelled = b.1 }

after_append : (n : ℕ) (xs ys : List ℕ)
    → digits_value_after 10 n (xs ++ ys) ≡ digits_value_after 10 (digits_value_after 10 n xs) ys
after_append n [] ys = refl
after_append n (x ∷ xs) ys = after_append (n * 10 + digit_value x) xs ys

all_behind : (xs ys : List ℕ) → AllDigits 10 (xs ++ ys) → AllDigits 10 ys
all_behind [] ys all = all
all_behind (x ∷ xs) ys all = all_behind xs ys all.1

-- digits after a number are cut off by dividing
cut : (n : ℕ) (ys : List ℕ) → AllDigits 10 ys → digits_value_after 10 n ys / 10 ^ length ys ≡ n
cut n [] all = ap (λ m. n / m) (pow-zero 10) ∙ div-one n
cut n (y ∷ ys) all =
    let v = digits_value_after 10 (n * 10 + digit_value y) ys in
    let k = length ys in
    let on : v / 10 ^ k ≡ n * 10 + digit_value y = cut (n * 10 + digit_value y) ys all.1 in
    ap (λ m. v / m) (pow-suc 10 k) ∙ sym (div-div-eq-div-mul v (10 ^ k) 10) ∙ omega (arith, on, all.0)

at_least : (n : ℕ) (ds : List ℕ) → n ≤ digits_value_after 10 n ds
at_least n [] = omega arith
at_least n (d ∷ ds) = omega (arith, at_least (n * 10 + digit_value d) ds)

-- digits that spell 0 begin with a 0
zero_first : (digits : List ℕ) → 0 < length digits → AllDigits 10 digits → digits_value 10 digits ≡ 0
    → get_or digits 0 0 ≡ 48
zero_first [] some all e = absurd (omega arith)
zero_first (c ∷ ds) some all e =
    let range = digit_from_value c all.0 in
    omega (arith, digit_value_digit c range, range, at_least (0 * 10 + digit_value c) ds, e)

front_of : (xs ys : List ℕ) → AllDigits 10 (xs ++ ys) → AllDigits 10 xs
front_of [] ys all = tt
front_of (x ∷ xs) ys all = (all.0, front_of xs ys all.1)

first_kept : (xs ys : List ℕ) → 0 < length xs → get_or (xs ++ ys) 0 0 ≡ get_or xs 0 0
first_kept [] ys some = absurd (omega arith)
first_kept (x ∷ xs) ys some = refl

pub starts_of : (digits : List ℕ) (low high : ℕ) → 0 < length digits → high < 2 ^ 64 → Begun digits low high
    → Starts (digits_value 10 digits) low high
starts_of digits low high some small b =
    elim (eq-zero-or-pos (digits_value 10 digits)) as (λ _. Starts (digits_value 10 digits) low high) [
      | inl none ↦ inl (none, least (zero_first digits some (front_of digits b.more all) none))
      | inr above ↦ inr (
        above,
        record
            { turns = length b.more; whole = b.whole; least = b.least; most = b.most; front = front },
      )
    ]
  where
    numeral : IsNumeral 10 (decimal b.whole) × (digits_value 10 (decimal b.whole) ≡ b.whole)
    numeral = decimal_is_IsNumeral b.whole (omega (arith, b.most))

    all : AllDigits 10 (digits ++ b.more)
    all = subst (AllDigits 10) b.spelled numeral.0.1

    value : digits_value_after 10 (digits_value 10 digits) b.more ≡ b.whole
    value = sym (after_append 0 digits b.more) ∙ ap (digits_value 10) (sym b.spelled) ∙ numeral.1

    front : b.whole / 10 ^ length b.more ≡ digits_value 10 digits
    front = ap (λ n. n / 10 ^ length b.more) (sym value)
        ∙ cut (digits_value 10 digits) b.more (all_behind digits b.more all)

    least : get_or digits 0 0 ≡ 48 → low ≡ 0
    least zero_ = elim (eq-zero-or-pos b.whole) as (λ _. low ≡ 0) [
      | inl none ↦ omega (arith, none, b.least)
      | inr above ↦ absurd (let first = first_decimal b.whole above (omega (arith, b.most)) in
          omega (arith, first, zero_, first_kept digits b.more some, ap (λ l. get_or l 0 0) b.spelled))
    ]
