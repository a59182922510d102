-- Of all answers of the reader one has its cause, and a printed spelling is a spelling.
use Rattle.std.proofs.Common.{◌≡◌, inl, inr, ℕ, pos, negsuc, zero, suc, ◌+◌, ◌-◌, ◌/◌, ◌%◌, ◌<◌, Bool, true, false, eqb, leb, ◌&&◌, List, [], ◌∷◌, ◌++◌, length, take, drop, get_or, map, Some, Result, Ok, Err, All, refl, sym, ap, ◌∙◌, arith, subst, append_assoc}
use Rattle.std.specs.List.{concat, flat_map, AllByRecursion}
use Rattle.std.specs.Char.{digit_value}
use Rattle.std.specs.Fmt.{decimal}
use Rattle.std.specs.Str.Parse.{IsNumeral, digits_value}
use Rattle.std.proofs.lemmas.Fmt.{decimal_is_IsNumeral}
use Rattle.std.proofs.Math.Seq.{take-add}
use Rattle.std.proofs.lemmas.Bool.{cond_both, eqb-true, cases_order}
use Rattle.std.proofs.lemmas.Bool.Decides.{nat_tests}
use Rattle.std.proofs.lemmas.List.{length-append, append-nil}
use Rattle.std.proofs.lemmas.List.Elements.{recursion_from_All}
use Rattle.flux_values.specs.declared.failures.ValueFault.{ValueFault}
use Rattle.flux_values.specs.declared.failures.ValueFault.TheVariants as faults
use Rattle.flux_values.specs.declared.values.Value.{Value}
use Rattle.flux_values.specs.declared.values.Value.TheVariants as values
use Rattle.flux_values.specs.declared.texts.TheConstants.{TEXT_LIMIT}
use Rattle.flux_values.specs.Texts.{hex_digit, printed_byte, printed_text, printed_value, printed_bool}
use Rattle.flux_values.specs.Reading.{IsValue, BeginsWith, ReadsBack}
use Rattle.flux_values.specs.Answers.{IsOrMemory}
use Rattle.flux_values.specs.Spellings.{minus, with_sign, SpellsByte, SpellEach, SpellsText, Spells, BeginsSpelled, CanGoOn, IsTooLong, IsBadValue, HasCause}
use Rattle.flux_spelling.proofs.Opened.{cut_alike}
use Rattle.flux_spelling.proofs.Fronts.{begins_head, begins_none, goes_less, as_text}
use Rattle.flux_spelling.proofs.TextsRead.{closes, nothing_full, Long, long_parts}
use Rattle.flux_spelling.proofs.NumbersRead.{number_of, first_of, digits_past}
use Rattle.flux_spelling.proofs.WordsRead.{as_word}

-- ---- one value begins bytes

pub record OneValue (v w : Value) (n m : ℕ) : Type 0 where
  pub value : v ≡ w
  pub long : n ≡ m

text_one : (x : List ℕ) (v w : Value) (n m : ℕ) → BeginsSpelled (34 ∷ x) v n → BeginsSpelled (34 ∷ x) w m → OneValue v w n m
text_one x v w n m one two =
    let a = as_text x v n one in
    let c = closes a.parts a.text a.rest w m a.each (subst (λ (l : List ℕ). BeginsSpelled (34 ∷ l) w m) a.laid two) in
    record { value = a.value ∙ sym c.value; long = a.long ∙ sym c.long }

front_of : (truth : Bool) (rest : List ℕ) → get_or (printed_bool truth ++ rest) 0 0 ≡ get_or (printed_bool truth) 0 0
front_of true rest = refl
front_of false rest = refl

word_one : (truth : Bool) (x : List ℕ) (w : Value) (n m : ℕ) → BeginsSpelled x (values.Bool truth) n → BeginsSpelled x w m → OneValue (values.Bool truth) w n m
word_one truth x w n m one two =
    let long : n ≡ length (printed_bool truth) = one.long ∙ ap length one.spells.form in
    let first : get_or x 0 0 ≡ get_or (printed_bool truth) 0 0 = ap (λ (l : List ℕ). get_or l 0 0) (one.front ∙ ap (λ (l : List ℕ). l ++ one.rest) one.spells.form) ∙ front_of truth one.rest in
    let a = as_word truth x w m first two in
    record { value = sym a.value; long = long ∙ sym a.long }

digits_one : (ds es : List ℕ) (negative : Bool) (m1 m2 : List ℕ) → es ≡ ds ++ m1 → ds ≡ es ++ m2 → ds ≡ es
digits_one ds es negative [] m2 e f = sym (e ∙ append-nil ds)
digits_one ds es negative (c ∷ m1) m2 e f = absurd (omega (arith, ap length e, ap length f, length-append ds (c ∷ m1), length-append es m2))

number_one : (negative : Bool) (ds rest : List ℕ) (v w : Value) (n m : ℕ) → IsNumeral 10 ds → BeginsSpelled (minus negative ++ (ds ++ rest)) v n → BeginsSpelled (minus negative ++ (ds ++ rest)) w m → OneValue v w n m
number_one negative ds rest v w n m numeral one two =
    let a = number_of negative (ds ++ rest) v n (first_of ds rest numeral) one in
    let b = number_of negative (ds ++ rest) w m (first_of ds rest numeral) two in
    let there = digits_past a.digits b.digits a.rest b.rest a.numeral.1 b.numeral.1 b.ends (sym b.laid ∙ a.laid) in
    let back = digits_past b.digits a.digits b.rest a.rest b.numeral.1 a.numeral.1 a.ends (sym a.laid ∙ b.laid) in
    let same : a.digits ≡ b.digits = digits_one a.digits b.digits negative there.more back.more there.whole back.whole in
    record {
      value = a.value ∙ ap (λ (l : List ℕ). values.Int (with_sign negative (digits_value 10 l))) same ∙ sym b.value;
      long = a.long ∙ ap (λ (l : List ℕ). length (minus negative) + length l) same ∙ sym b.long;
    }

pub one_value : (bytes : List ℕ) (v w : Value) (n m : ℕ) → BeginsSpelled bytes v n → BeginsSpelled bytes w m → OneValue v w n m
one_value bytes (values.Bool truth) w n m one two = word_one truth bytes w n m one two
one_value bytes (values.Int z) w n m one two =
    let form = one.spells.form in
    let is : bytes ≡ minus form.negative ++ (form.digits ++ one.rest) = one.front ∙ ap (λ (l : List ℕ). l ++ one.rest) form.laid ∙ append_assoc (minus form.negative) form.digits one.rest in
    number_one form.negative form.digits one.rest (values.Int z) w n m form.numeral (subst (λ (l : List ℕ). BeginsSpelled l (values.Int z) n) is one) (subst (λ (l : List ℕ). BeginsSpelled l w m) is two)
one_value [] (values.Text t) w n m one two = absurd (begins_none (values.Text t) n one)
one_value (b ∷ x) (values.Text t) w n m one two =
    let quote : b ≡ 34 = begins_head b x (values.Text t) n one in
    text_one x (values.Text t) w n m (subst (λ (c : ℕ). BeginsSpelled (c ∷ x) (values.Text t) n) quote one) (subst (λ (c : ℕ). BeginsSpelled (c ∷ x) w m) quote two)

-- ---- one place

full_one : (x y : List ℕ) (at place : ℕ) → Long x at → Long x place → (more : List (List ℕ)) (text t u xs ys : List ℕ) → SpellEach more text → length t ≡ TEXT_LIMIT → length u ≡ TEXT_LIMIT → u ≡ t ++ text → xs ≡ concat more ++ ys → xs ≡ ys
full_one x y at place a b [] text t u xs ys each full too whole rest = rest
full_one x y at place a b (q ∷ more) [] t u xs ys each full too whole rest = absurd each
full_one x y at place a b (q ∷ more) (c ∷ text) t u xs ys each full too whole rest = absurd (omega (arith, ap length whole, length-append t (c ∷ text)))

long_one : (x : List ℕ) (at place : ℕ) → Long x at → Long x place → at ≡ place
long_one x at place a b =
    let same : a.rest ≡ b.rest = elim (cut_alike a.parts b.parts a.text b.text a.rest b.rest a.each b.each (sym a.laid ∙ b.laid)) as (λ _. a.rest ≡ b.rest) [
      | inl on ↦ full_one x x at place a b on.more on.text a.text b.text a.rest b.rest on.each a.full b.full on.whole on.rest
      | inr on ↦ sym (full_one x x at place a b on.more on.text b.text a.text b.rest a.rest on.each b.full a.full on.whole on.rest)
    ] in
    omega (arith, a.place, b.place, ap length same)

long_value : (x : List ℕ) (at : ℕ) (v : Value) (n : ℕ) → Long x at → BeginsSpelled (34 ∷ x) v n → ⊥
long_value x at v n a begins = nothing_full a.parts a.text a.rest v n a.each (omega (arith, a.full)) a.other (subst (λ (l : List ℕ). BeginsSpelled (34 ∷ l) v n) a.laid begins)

-- a text that is too long begins with a quote
record QuoteFirst (bytes : List ℕ) : Type 0 where
  rest : List ℕ
  is : bytes ≡ 34 ∷ rest

quoted : (bytes : List ℕ) (at : ℕ) → IsTooLong bytes at → QuoteFirst bytes
quoted [] at long = absurd (let lt = long.within in omega arith)
quoted (b ∷ x) zero long = absurd (let e : [] ≡ 34 ∷ concat long.opens.pieces = long.opens.laid in cc)
quoted (b ∷ x) (suc at) long = let e : b ≡ 34 = ap (λ (l : List ℕ). get_or l 0 0) long.opens.laid in record { rest = x; is = ap (λ (c : ℕ). c ∷ x) e }

pub one_too_long : (bytes : List ℕ) (at place : ℕ) → IsTooLong bytes at → IsTooLong bytes place → at ≡ place
one_too_long bytes at place a b =
    let q = quoted bytes at a in
    long_one q.rest at place (long_parts q.rest at (subst (λ (l : List ℕ). IsTooLong l at) q.is a)) (long_parts q.rest place (subst (λ (l : List ℕ). IsTooLong l place) q.is b))

pub too_long_no_value : (bytes : List ℕ) (at : ℕ) (v : Value) (n : ℕ) → IsTooLong bytes at → BeginsSpelled bytes v n → ⊥
too_long_no_value bytes at v n a begins =
    let q = quoted bytes at a in
    long_value q.rest at v n (long_parts q.rest at (subst (λ (l : List ℕ). IsTooLong l at) q.is a)) (subst (λ (l : List ℕ). BeginsSpelled l v n) q.is begins)

earlier : (bytes : List ℕ) (at place : ℕ) → IsBadValue bytes at → IsBadValue bytes place → at < place → ⊥
earlier bytes at place a b lt =
    let more = place - (at + 1) in
    let is : take place bytes ≡ take (at + 1) bytes ++ take more (drop (at + 1) bytes) = ap (λ (m : ℕ). take m bytes) (omega arith) ∙ take-add (at + 1) more bytes in
    a.after (omega (arith, b.within)) (goes_less (take (at + 1) bytes) (take more (drop (at + 1) bytes)) (subst CanGoOn is b.before))

pub one_bad : (bytes : List ℕ) (at place : ℕ) → IsBadValue bytes at → IsBadValue bytes place → at ≡ place
one_bad bytes at place a b = elim (cases_order at place) as (λ _. at ≡ place) [
  | inl same ↦ same
  | inr differ ↦ absurd (elim differ [ inl lt ↦ earlier bytes at place a b lt | inr gt ↦ earlier bytes place at b a gt ])
]

-- ---- each cause has its answer

abbrev Answer : Type 0
Answer = Result (Value × ℕ) ValueFault

pub answers_value : (r : Answer) (bytes : List ℕ) → HasCause r bytes → (v : Value) (n : ℕ) → BeginsSpelled bytes v n → IsOrMemory faults.Memory (Ok (v, n)) r
answers_value (Ok read) bytes cause v n begins =
    let o = one_value bytes read.0 v read.1 n cause.begins begins in
    inl (ap (λ (w : Value). Ok (w, read.1)) o.value ∙ ap (λ (m : ℕ). Ok (v, m)) o.long)
answers_value (Err (faults.BadValue at)) bytes cause v n begins = absurd (cause.no_value v n begins)
answers_value (Err (faults.TooLong at)) bytes cause v n begins = absurd (too_long_no_value bytes at v n cause begins)
answers_value (Err faults.Memory) bytes cause v n begins = inr refl

pub answers_too_long : (r : Answer) (bytes : List ℕ) → HasCause r bytes → (at : ℕ) → IsTooLong bytes at → IsOrMemory faults.Memory (Err (faults.TooLong at)) r
answers_too_long (Ok read) bytes cause at long = absurd (too_long_no_value bytes at read.0 read.1 long cause.begins)
answers_too_long (Err (faults.BadValue place)) bytes cause at long = absurd (cause.no_text at long)
answers_too_long (Err (faults.TooLong place)) bytes cause at long = inl (ap (λ (k : ℕ). Err (faults.TooLong k)) (one_too_long bytes place at cause long))
answers_too_long (Err faults.Memory) bytes cause at long = inr refl

pub answers_bad : (r : Answer) (bytes : List ℕ) → HasCause r bytes → (at : ℕ) → IsBadValue bytes at → IsOrMemory faults.Memory (Err (faults.BadValue at)) r
answers_bad (Ok read) bytes cause at bad = absurd (bad.no_value read.0 read.1 cause.begins)
answers_bad (Err (faults.BadValue place)) bytes cause at bad = inl (ap (λ (k : ℕ). Err (faults.BadValue k)) (one_bad bytes place at cause bad))
answers_bad (Err (faults.TooLong place)) bytes cause at bad = absurd (bad.no_text place cause)
answers_bad (Err faults.Memory) bytes cause at bad = inr refl

-- ---- a printed spelling is a spelling

hex_is : (d : ℕ) → d < 16 → digit_value (hex_digit d) ≡ d
hex_is d lt = grind (arith, nat_tests)

byte_spells : (b : ℕ) → b < 256 → SpellsByte (printed_byte b) b
unfolding printed_byte
byte_spells b lt =
    let P : List ℕ → Type 0 = λ (s : List ℕ). SpellsByte s b in
    cond_both (eqb b 34) _ _ P (λ e. (refl, sym (ap Some (eqb-true b 34 e)))) (λ n34.
    cond_both (eqb b 92) _ _ P (λ e. (refl, sym (ap Some (eqb-true b 92 e)))) (λ n92.
    cond_both (eqb b 10) _ _ P (λ e. (refl, sym (ap Some (eqb-true b 10 e)))) (λ n10.
    cond_both (eqb b 13) _ _ P (λ e. (refl, sym (ap Some (eqb-true b 13 e)))) (λ n13.
    cond_both (eqb b 9) _ _ P (λ e. (refl, sym (ap Some (eqb-true b 9 e)))) (λ n9.
    cond_both (leb 32 b && leb b 126) _ _ P (λ e. (refl, grind (arith, nat_tests), grind (arith, nat_tests), grind (arith, nat_tests))) (λ e.
    let high = hex_is (b / 16) (omega arith) in
    let low = hex_is (b % 16) (omega arith) in
    (refl, refl, omega (arith, high), omega (arith, low), omega (arith, high, low))))))))

bytes_spell : (t : List ℕ) → AllByRecursion (λ b. b < 256) t → SpellEach (map printed_byte t) t
bytes_spell [] all = tt
bytes_spell (b ∷ t) all = (byte_spells b all.0, bytes_spell t all.1)

printed_laid : (t : List ℕ) → flat_map printed_byte t ≡ concat (map printed_byte t)
printed_laid [] = refl
printed_laid (b ∷ t) = ap (λ (l : List ℕ). printed_byte b ++ l) (printed_laid t)

pub printed_text_spells : (t : List ℕ) → All (λ b. b < 256) t → SpellsText (printed_text t) t
printed_text_spells t all = record {
  opened = 34 ∷ concat (map printed_byte t);
  opens = record { pieces = map printed_byte t; laid = refl; each = bytes_spell t (recursion_from_All (λ (b : ℕ). b < 256) t all) };
  closed = ap (λ (l : List ℕ). 34 ∷ l ++ 34 ∷ []) (printed_laid t);
}

pub printed_spells : (v : Value) → IsValue v → Spells (printed_value v) v
printed_spells (values.Int (pos n)) fits = let d = decimal_is_IsNumeral n (omega arith) in record { is_value = fits; form = record { negative = false; digits = decimal n; numeral = d.0; laid = refl; value = ap pos (sym d.1) } }
printed_spells (values.Int (negsuc n)) fits = let d = decimal_is_IsNumeral (suc n) (omega arith) in record { is_value = fits; form = record { negative = true; digits = decimal (suc n); numeral = d.0; laid = refl; value = ap (with_sign true) (sym d.1) } }
printed_spells (values.Bool truth) fits = record { is_value = tt; form = refl }
printed_spells (values.Text t) fits = record { is_value = fits; form = printed_text_spells t fits.0 }

-- what begins with a printed spelling begins with a spelling
pub printed_begins : (v : Value) (bytes : List ℕ) → BeginsWith v bytes → BeginsSpelled bytes v (length (printed_value v))
printed_begins v bytes b = record { spelling = printed_value v; rest = b.rest; spells = printed_spells v b.is_value; ends = b.ends; front = b.spelled; long = refl }

pub reads_back : (r : Answer) (bytes : List ℕ) → HasCause r bytes → (v : Value) → BeginsWith v bytes → ReadsBack r v
reads_back (Ok read) bytes cause v b =
    let o = one_value bytes read.0 v read.1 (length (printed_value v)) cause.begins (printed_begins v bytes b) in
    ap (λ (w : Value). (w, read.1)) o.value ∙ ap (λ (m : ℕ). (v, m)) o.long
reads_back (Err (faults.BadValue at)) bytes cause v b = cause.no_value v (length (printed_value v)) (printed_begins v bytes b)
reads_back (Err (faults.TooLong at)) bytes cause v b = too_long_no_value bytes at v (length (printed_value v)) cause (printed_begins v bytes b)
reads_back (Err faults.Memory) bytes cause v b = tt
