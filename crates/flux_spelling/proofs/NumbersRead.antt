-- What the reader of a number may answer, from the digits that it has read.
use Rattle.std.proofs.Common.{◌≡◌, ◌⊎◌, inl, inr, ℕ, ℤ, zero, suc, ◌+◌, ◌-◌, ◌<◌, ◌≤◌, Bool, true, false, List, [], ◌∷◌, ◌++◌, length, take, drop, get_or, refl, sym, ap, ◌∙◌, arith, subst, append_assoc, FitsSigned}
use Rattle.std.specs.Int.{w64}
use Rattle.std.specs.Char.{digit_value, is_ascii_digit}
use Rattle.std.specs.Str.Parse.{AllDigits, IsNumeral, digits_value}
use Rattle.std.proofs.lemmas.Str.Parse.{digit_from_value, digits_value-take-le}
use Rattle.std.proofs.lemmas.Bool.Decides.{nat_tests}
use Rattle.std.proofs.lemmas.Int.{ints}
use Rattle.std.proofs.lemmas.List.{length-append, append-nil, take-append-drop, append_cancel_left, length-take-le, take_more}
use Rattle.std.proofs.Math.Seq.{take-append_seam, take-append-add}
use Rattle.flux_values.specs.declared.values.Value.{Value}
use Rattle.flux_values.specs.declared.values.Value.TheVariants as values
use Rattle.flux_values.specs.Reading.{NoDigitFirst}
use Rattle.flux_values.specs.Spellings.{minus, with_sign, BeginsSpelled, IsLongest, CanGoOn, IsTooLong, IsBadValue}
use Rattle.flux_spelling.specs.steps.Numbers.{limit_of, IsSigned, AreDigits, AreTooMany}
use mir.Val.{bool_byte}
use Rattle.flux_spelling.proofs.Fronts.{IsHead, begins_head, cannot_go_on, quote_first}

-- a number of 64 bits is one up to the limit
pub fits_signed : (negative : Bool) (m : ℕ) → m ≤ limit_of negative → FitsSigned w64 (with_sign negative m)
fits_signed true zero le = omega (arith, ints)
fits_signed true (suc m) le = omega (arith, ints)
fits_signed false m le = omega (arith, ints)

signed_fits : (negative : Bool) (m : ℕ) → FitsSigned w64 (with_sign negative m) → m ≤ limit_of negative
signed_fits true zero fits = omega (arith, ints)
signed_fits true (suc m) fits = omega (arith, ints)
signed_fits false m fits = omega (arith, ints)

-- a digit by its value is one by its code
digit_code : (c : ℕ) → digit_value c < 10 → is_ascii_digit c ≡ true
digit_code c h = let r = digit_from_value c h in grind (arith, nat_tests)

no_digit : (c : ℕ) → digit_value c < 10 → is_ascii_digit c ≡ false → ⊥
no_digit c h none = let e : true ≡ false = sym (digit_code c h) ∙ none in absurd cc

-- digits up to what is none go past all digits that are at the same front
pub record GoPast (es ds rest tail : List ℕ) : Type 0 where
  pub more : List ℕ
  pub whole : es ≡ ds ++ more
  pub left : tail ≡ more ++ rest

pub digits_past : (ds es tail rest : List ℕ) → AllDigits 10 ds → AllDigits 10 es → NoDigitFirst rest → es ++ rest ≡ ds ++ tail → GoPast es ds rest tail
digits_past [] es tail rest all each none e = record { more = es; whole = refl; left = sym e }
digits_past (d ∷ ds) [] tail [] all each none e = absurd cc
digits_past (d ∷ ds) [] tail (r ∷ rest) all each none e = absurd (no_digit d all.0 (subst (λ (c : ℕ). is_ascii_digit c ≡ false) (ap (λ (l : List ℕ). get_or l 0 0) e) none))
digits_past (d ∷ ds) (c ∷ es) tail rest all each none e =
    let on = digits_past ds es tail rest all.1 each.1 none (ap (drop 1) e) in
    let same : c ≡ d = ap (λ (l : List ℕ). get_or l 0 0) e in
    record { more = on.more; whole = cc (same, on.whole); left = on.left }

-- digits and a sign that begin what begins with a sign and a digit
pub record AsNumber (negative : Bool) (x : List ℕ) (v : Value) (n : ℕ) : Type 0 where
  pub digits : List ℕ
  pub rest : List ℕ
  pub numeral : IsNumeral 10 digits
  pub small : digits_value 10 digits ≤ limit_of negative
  pub value : v ≡ values.Int (with_sign negative (digits_value 10 digits))
  pub ends : NoDigitFirst rest
  pub laid : x ≡ digits ++ rest
  pub long : n ≡ length (minus negative) + length digits

-- the first byte decides the sign
same_sign : (a b : Bool) (d : ℕ) (ds es rest : List ℕ) → digit_value d < 10 → IsNumeral 10 es → minus a ++ d ∷ ds ≡ (minus b ++ es) ++ rest → a ≡ b
same_sign true true d ds es rest first numeral e = refl
same_sign false false d ds es rest first numeral e = refl
same_sign true false d ds [] rest first numeral e = absurd (let some = numeral.0 in omega arith)
same_sign true false d ds (c ∷ es) rest first numeral e = absurd (let r = digit_from_value c numeral.1.0 in let same : 45 ≡ c = ap (λ (l : List ℕ). get_or l 0 0) e in omega arith)
same_sign false true d ds es rest first numeral e = absurd (let r = digit_from_value d first in let same : d ≡ 45 = ap (λ (l : List ℕ). get_or l 0 0) e in omega arith)

-- a number's form
int_form : (negative : Bool) (d : ℕ) (x : List ℕ) (z : ℤ) (n : ℕ) (s rest digits : List ℕ) (a : Bool) → digit_value d < 10 → negative ≡ a → FitsSigned w64 z → NoDigitFirst rest
    → minus negative ++ d ∷ x ≡ s ++ rest → n ≡ length s → IsNumeral 10 digits → s ≡ minus a ++ digits → z ≡ with_sign a (digits_value 10 digits) → AsNumber negative (d ∷ x) (values.Int z) n
int_form negative d x z n s rest digits a first same fits none front long numeral laid value = record {
  digits = digits;
  rest = rest;
  numeral = numeral;
  small = signed_fits negative (digits_value 10 digits) (subst (FitsSigned w64) (value ∙ ap (λ (b : Bool). with_sign b (digits_value 10 digits)) (sym same)) fits);
  value = ap values.Int (value ∙ ap (λ (b : Bool). with_sign b (digits_value 10 digits)) (sym same));
  ends = none;
  laid = append_cancel_left (minus negative) (d ∷ x) (digits ++ rest) (front ∙ ap (λ (l : List ℕ). l ++ rest) (laid ∙ ap (λ (b : Bool). minus b ++ digits) (sym same)) ∙ append_assoc (minus negative) digits rest);
  long = long ∙ ap length (laid ∙ ap (λ (b : Bool). minus b ++ digits) (sym same)) ∙ length-append (minus negative) digits;
}

-- what begins with a sign and a digit is a number's
not_text : (negative : Bool) (d : ℕ) (x : List ℕ) (v : Value) (n : ℕ) (P : Type 0) → digit_value d < 10 → BeginsSpelled (minus negative ++ d ∷ x) v n → ((b : ℕ) → (45 ≤ b) × (b < 58) → IsHead v b → P) → P
not_text true d x v n P first begins for = for 45 (omega arith, omega arith) (begins_head 45 (d ∷ x) v n begins)
not_text false d x v n P first begins for = let r = digit_from_value d first in for d (omega arith, omega arith) (begins_head d x v n begins)

pub as_number : (negative : Bool) (d : ℕ) (x : List ℕ) (v : Value) (n : ℕ) → digit_value d < 10 → BeginsSpelled (minus negative ++ d ∷ x) v n → AsNumber negative (d ∷ x) v n
as_number negative d x (values.Bool true) n first begins = absurd (not_text negative d x (values.Bool true) n ⊥ first begins (λ b range is. omega arith))
as_number negative d x (values.Bool false) n first begins = absurd (not_text negative d x (values.Bool false) n ⊥ first begins (λ b range is. omega arith))
as_number negative d x (values.Text t) n first begins = absurd (not_text negative d x (values.Text t) n ⊥ first begins (λ b range is. omega arith))
as_number negative d x (values.Int z) n first begins =
    let form = begins.spells.form in
    let same = same_sign negative form.negative d x form.digits begins.rest first form.numeral (begins.front ∙ ap (λ (l : List ℕ). l ++ begins.rest) form.laid) in
    int_form negative d x z n begins.spelling begins.rest form.digits form.negative first same begins.spells.is_value begins.ends begins.front begins.long form.numeral form.laid form.value

-- no text begins where a sign or a digit does
pub number_not_long : (negative : Bool) (d : ℕ) (x : List ℕ) (at : ℕ) → digit_value d < 10 → IsTooLong (minus negative ++ d ∷ x) at → ⊥
number_not_long true d x at first long = quote_first 45 (d ∷ x) at long (omega arith)
number_not_long false d x at first long = let r = digit_from_value d first in quote_first d x at long (omega arith)

-- ---- the answers

-- a digit is first
pub record FirstDigit (x : List ℕ) : Type 0 where
  pub digit : ℕ
  pub rest : List ℕ
  pub is : x ≡ digit ∷ rest
  pub small : digit_value digit < 10

pub first_of : (ds y : List ℕ) → IsNumeral 10 ds → FirstDigit (ds ++ y)
first_of [] y numeral = absurd (let some = numeral.0 in omega arith)
first_of (d ∷ ds) y numeral = record { digit = d; rest = ds ++ y; is = refl; small = numeral.1.0 }

first_taken : (x : List ℕ) (n : ℕ) → IsNumeral 10 (take n x) → FirstDigit x
first_taken x n numeral = subst FirstDigit (take-append-drop n x) (first_of (take n x) (drop n x) numeral)

pub number_of : (negative : Bool) (x : List ℕ) (v : Value) (n : ℕ) → FirstDigit x → BeginsSpelled (minus negative ++ x) v n → AsNumber negative x v n
number_of negative x v n f begins = subst (λ (l : List ℕ). AsNumber negative l v n) (sym f.is) (as_number negative f.digit f.rest v n f.small (subst (λ (l : List ℕ). BeginsSpelled (minus negative ++ l) v n) f.is begins))

no_text_there : (negative : Bool) (x : List ℕ) (at : ℕ) → FirstDigit x → IsTooLong (minus negative ++ x) at → ⊥
no_text_there negative x at f long = number_not_long negative f.digit f.rest at f.small (subst (λ (l : List ℕ). IsTooLong (minus negative ++ l) at) f.is long)

-- the number of all digits at the front is read
pub number_read : (negative : Bool) (x : List ℕ) (m n : ℕ) → AreDigits x (limit_of negative) m n → IsLongest (minus negative ++ x) (values.Int (with_sign negative m)) (length (minus negative) + n)
number_read negative x m n ds =
    let f = first_taken x n ds.numeral in
    record {
      begins = record {
        spelling = minus negative ++ take n x;
        rest = drop n x;
        spells = record { is_value = fits_signed negative m ds.small; form = record { negative = negative; digits = take n x; numeral = ds.numeral; laid = refl; value = ap (with_sign negative) ds.value } };
        ends = ds.ends;
        front = ap (λ (l : List ℕ). minus negative ++ l) (sym (take-append-drop n x)) ∙ sym (append_assoc (minus negative) (take n x) (drop n x));
        long = omega (arith, length-append (minus negative) (take n x), length-take-le n x ds.within);
      };
      longest = λ other k begins.
          let a = number_of negative x other k f begins in
          let past = digits_past a.digits (take n x) a.rest (drop n x) a.numeral.1 ds.numeral.1 ds.ends (take-append-drop n x ∙ a.laid) in
          omega (arith, a.long, ap length past.whole, length-append a.digits past.more, length-take-le n x ds.within);
    }

all_front : (ds es : List ℕ) → AllDigits 10 (ds ++ es) → AllDigits 10 ds
all_front [] es all = tt
all_front (d ∷ ds) es all = (all.0, all_front ds es all.1)

great : (negative : Bool) (ds more : List ℕ) (m : ℕ) → m ≡ digits_value 10 (ds ++ more) → m ≤ limit_of negative → limit_of negative < digits_value 10 ds → ⊥
great negative ds more m is small large =
    let low : digits_value 10 (take (length ds) (ds ++ more)) ≤ digits_value 10 (ds ++ more) = digits_value-take-le 10 (ds ++ more) (length ds) (omega arith) in
    let same : digits_value 10 (take (length ds) (ds ++ more)) ≡ digits_value 10 ds = ap (digits_value 10) (take-append_seam ds more) in
    omega arith

nothing_great : (negative : Bool) (ds y : List ℕ) (v : Value) (n : ℕ) → IsNumeral 10 ds → limit_of negative < digits_value 10 ds → BeginsSpelled (minus negative ++ (ds ++ y)) v n → ⊥
nothing_great negative ds y v n numeral large begins =
    let a = number_of negative (ds ++ y) v n (first_of ds y numeral) begins in
    let past = digits_past ds a.digits y a.rest numeral.1 a.numeral.1 a.ends (sym a.laid) in
    great negative ds past.more (digits_value 10 a.digits) (ap (digits_value 10) past.whole) a.small large

-- the first digits that spell too great a number end it
pub number_great : (negative : Bool) (x : List ℕ) (at : ℕ) → AreTooMany x (limit_of negative) at → IsBadValue (minus negative ++ x) (length (minus negative) + at)
number_great negative x at many =
    let ds = take (at + 1) x in
    let long : length ds ≡ at + 1 = length-take-le (at + 1) x (omega (arith, many.within)) in
    let numeral : IsNumeral 10 ds = (omega arith, many.digits) in
    let k = length (minus negative) in
    let bytes = minus negative ++ x in
    let before : take (k + at) bytes ≡ minus negative ++ take at x = take-append-add (minus negative) x at in
    let next : take (k + at + 1) bytes ≡ minus negative ++ ds = ap (λ (m : ℕ). take m bytes) (omega arith) ∙ take-append-add (minus negative) x (at + 1) in
    let front : AllDigits 10 (take at x) = all_front (take at x) (get_or x at 0 ∷ []) (subst (AllDigits 10) (take_more x at 0 many.within) many.digits) in
    record {
      no_value = λ v n begins. nothing_great negative ds (drop (at + 1) x) v n numeral many.great (subst (λ (l : List ℕ). BeginsSpelled (minus negative ++ l) v n) (sym (take-append-drop (at + 1) x)) begins);
      no_text = λ place long. no_text_there negative x place (first_taken x (at + 1) numeral) long;
      within = omega (arith, many.within, length-append (minus negative) x);
      before = record {
        more = [];
        value = values.Int (with_sign negative (digits_value 10 (take at x)));
        spells = record {
          is_value = fits_signed negative (digits_value 10 (take at x)) many.small;
          form = record { negative = negative; digits = take at x; numeral = (omega (arith, many.some, length-take-le at x (omega (arith, many.within))), front); laid = append-nil (take (k + at) bytes) ∙ before; value = refl };
        };
      };
      after = λ lt. cannot_go_on (take (k + at + 1) bytes) (λ y v n begins.
          nothing_great negative ds y v n numeral many.great (subst (λ (l : List ℕ). BeginsSpelled l v n) (ap (λ (l : List ℕ). l ++ y) next ∙ append_assoc (minus negative) ds y) begins));
    }

-- a minus sign alone spells nothing
minus_is : (x rest digits : List ℕ) (a : Bool) → NoDigitFirst x → IsNumeral 10 digits → 45 ∷ x ≡ (minus a ++ digits) ++ rest → ⊥
minus_is x rest [] a none numeral e = let some = numeral.0 in omega arith
minus_is x rest (d ∷ ds) false none numeral e = let r = digit_from_value d numeral.1.0 in let same : 45 ≡ d = ap (λ (l : List ℕ). get_or l 0 0) e in omega arith
minus_is [] rest (d ∷ ds) true none numeral e = absurd (let f : [] ≡ (d ∷ ds) ++ rest = ap (drop 1) e in cc)
minus_is (b ∷ x) rest (d ∷ ds) true none numeral e = no_digit d numeral.1.0 (subst (λ (c : ℕ). is_ascii_digit c ≡ false) (ap (λ (l : List ℕ). get_or l 1 0) e) none)

minus_alone : (x : List ℕ) (v : Value) (n : ℕ) → NoDigitFirst x → BeginsSpelled (45 ∷ x) v n → ⊥
minus_alone x (values.Int z) n none begins = let form = begins.spells.form in minus_is x begins.rest form.digits form.negative none form.numeral (begins.front ∙ ap (λ (l : List ℕ). l ++ begins.rest) form.laid)
minus_alone x (values.Bool true) n none begins = let h = begins_head 45 x (values.Bool true) n begins in omega arith
minus_alone x (values.Bool false) n none begins = let h = begins_head 45 x (values.Bool false) n begins in omega arith
minus_alone x (values.Text t) n none begins = let h = begins_head 45 x (values.Text t) n begins in omega arith

minus_after : (x : List ℕ) → NoDigitFirst x → 1 < length (45 ∷ x) → CanGoOn (take 2 (45 ∷ x)) → ⊥
minus_after [] none lt = absurd (omega arith)
minus_after (b ∷ x) none lt = cannot_go_on (45 ∷ b ∷ []) (λ y v n begins. minus_alone (b ∷ y) v n none begins)

pub number_none : (x : List ℕ) → NoDigitFirst x → IsBadValue (45 ∷ x) 1
number_none x none = record {
  no_value = λ v n begins. minus_alone x v n none begins;
  no_text = λ place long. quote_first 45 x place long (omega arith);
  within = omega arith;
  before = record { more = 48 ∷ []; value = values.Int (with_sign true 0); spells = record { is_value = fits_signed true 0 (omega arith); form = record { negative = true; digits = 48 ∷ []; numeral = (omega arith, (omega arith, tt)); laid = refl; value = refl } } };
  after = minus_after x none;
}

-- ---- the reader's steps

-- a digit's code and its value
pub digit_number : (c : ℕ) → is_ascii_digit c ≡ true → (digit_value c < 10) × (digit_value c ≡ c - 48) × (c - 48 < 10)
digit_number c is = (grind (arith, nat_tests), grind (arith, nat_tests), grind (arith, nat_tests))

all_more : (ds : List ℕ) (d : ℕ) → AllDigits 10 ds → digit_value d < 10 → AllDigits 10 (ds ++ d ∷ [])
all_more [] d all lt = (lt, tt)
all_more (c ∷ ds) d all lt = (all.0, all_more ds d all.1 lt)

pub digits_more : (bytes : List ℕ) (at : ℕ) → AllDigits 10 (take at bytes) → at < length bytes → digit_value (get_or bytes at 0) < 10 → AllDigits 10 (take (at + 1) bytes)
digits_more bytes at all lt digit = rw (take_more bytes at 0 lt) (all_more (take at bytes) (get_or bytes at 0) all digit)

-- the first digit is never too great
pub some_before : (bytes : List ℕ) (at number : ℕ) → number ≡ digits_value 10 (take at bytes) → 0 < number → 0 < at
some_before bytes zero number value some = absurd (omega arith)
some_before bytes (suc at) number value some = omega arith

-- a number after its sign
pub signed_read : (negative : Bool) (bytes : List ℕ) (sign limit m n : ℕ) → IsSigned negative bytes → sign ≡ bool_byte negative → limit ≡ 9223372036854775807 + bool_byte negative → AreDigits (drop sign bytes) limit m n
    → IsLongest bytes (values.Int (with_sign negative m)) (sign + n) × (m ≤ limit_of negative)
signed_read true bytes sign limit m n first is top ds =
    let there : AreDigits (drop 1 bytes) (limit_of true) m n = subst (λ (l : ℕ). AreDigits (drop 1 bytes) l m n) top (subst (λ (s : ℕ). AreDigits (drop s bytes) limit m n) is ds) in
    (subst (λ (l : List ℕ). IsLongest l (values.Int (with_sign true m)) (sign + n)) (sym first) (subst (λ (s : ℕ). IsLongest (45 ∷ drop 1 bytes) (values.Int (with_sign true m)) (s + n)) (sym is) (number_read true (drop 1 bytes) m n there)), there.small)
signed_read false bytes sign limit m n first is top ds =
    let there : AreDigits bytes (limit_of false) m n = subst (λ (l : ℕ). AreDigits bytes l m n) top (subst (λ (s : ℕ). AreDigits (drop s bytes) limit m n) is ds) in
    (subst (λ (s : ℕ). IsLongest bytes (values.Int (with_sign false m)) (s + n)) (sym is) (number_read false bytes m n there), there.small)

-- no number after its sign
pub signed_bad : (negative : Bool) (bytes : List ℕ) (sign limit at : ℕ) → IsSigned negative bytes → sign ≡ bool_byte negative → limit ≡ 9223372036854775807 + bool_byte negative
    → ((at ≡ 0) × NoDigitFirst (drop sign bytes)) ⊎ AreTooMany (drop sign bytes) limit at → IsBadValue bytes (sign + at)
signed_bad true bytes sign limit at first is top (inl none) =
    subst (λ (l : List ℕ). IsBadValue l (sign + at)) (sym first) (subst (IsBadValue (45 ∷ drop 1 bytes)) (omega (arith, none.0)) (number_none (drop 1 bytes) (subst (λ (s : ℕ). NoDigitFirst (drop s bytes)) is none.1)))
signed_bad true bytes sign limit at first is top (inr many) =
    let there : AreTooMany (drop 1 bytes) (limit_of true) at = subst (λ (l : ℕ). AreTooMany (drop 1 bytes) l at) top (subst (λ (s : ℕ). AreTooMany (drop s bytes) limit at) is many) in
    subst (λ (l : List ℕ). IsBadValue l (sign + at)) (sym first) (subst (λ (s : ℕ). IsBadValue (45 ∷ drop 1 bytes) (s + at)) (sym is) (number_great true (drop 1 bytes) at there))
signed_bad false bytes sign limit at first is top (inl none) = absurd (first (subst (λ (s : ℕ). NoDigitFirst (drop s bytes)) is none.1))
signed_bad false bytes sign limit at first is top (inr many) =
    let there : AreTooMany bytes (limit_of false) at = subst (λ (l : ℕ). AreTooMany bytes l at) top (subst (λ (s : ℕ). AreTooMany (drop s bytes) limit at) is many) in
    subst (λ (s : ℕ). IsBadValue bytes (s + at)) (sym is) (number_great false bytes at there)

pub no_digit_first : (ds y : List ℕ) → IsNumeral 10 ds → NoDigitFirst (ds ++ y) → ⊥
no_digit_first [] y n none = let some = n.0 in omega arith
no_digit_first (d ∷ ds) y n none = no_digit d n.1.0 none
