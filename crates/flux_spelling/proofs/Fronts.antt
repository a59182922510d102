-- What begins with which byte, and what begins with a text's quote.
use Rattle.std.proofs.Common.{◌≡◌, ◌≢◌, ℕ, zero, suc, ◌+◌, ◌<◌, ◌≤◌, Bool, true, false, ℤ, List, [], ◌∷◌, ◌++◌, length, drop, get_or, refl, sym, ap, ◌∙◌, arith, subst, append_assoc}
use Rattle.std.specs.List.{concat}
use Rattle.std.specs.Str.Parse.{IsNumeral}
use Rattle.std.proofs.lemmas.Str.Parse.{digit_from_value}
use Rattle.std.proofs.lemmas.List.{length-append, append-nil}
use Rattle.flux_values.specs.declared.values.Value.{Value}
use Rattle.flux_values.specs.declared.values.Value.TheVariants as values
use Rattle.flux_values.specs.declared.texts.TheConstants.{TEXT_LIMIT}
use Rattle.flux_values.specs.Reading.{EndsBefore}
use Rattle.flux_values.specs.Spellings.{minus, SpellEach, Spells, BeginsSpelled, CanGoOn, IsTooLong}

-- the bytes with which a value's spellings begin
abbrev pub IsHead : Value → ℕ → Type 0
IsHead (values.Int number) b = (45 ≤ b) × (b < 58) × (b ≢ 46) × (b ≢ 47)
IsHead (values.Bool true) b = b ≡ 116
IsHead (values.Bool false) b = b ≡ 102
IsHead (values.Text text) b = b ≡ 34

-- a list that begins with a value's head
pub record HasHead (v : Value) (s : List ℕ) : Type 0 where
  pub first : ℕ
  pub rest : List ℕ
  pub is : s ≡ first ∷ rest
  pub head : IsHead v first

digits_head : (z : ℤ) (ds : List ℕ) → IsNumeral 10 ds → HasHead (values.Int z) ds
digits_head z [] n = absurd (let some = n.0 in omega arith)
digits_head z (c ∷ ds) n = let r = digit_from_value c n.1.0 in record { first = c; rest = ds; is = refl; head = (omega arith, omega arith, omega arith, omega arith) }

number_head : (z : ℤ) (negative : Bool) (s ds : List ℕ) → IsNumeral 10 ds → s ≡ minus negative ++ ds → HasHead (values.Int z) s
number_head z true s ds n is = record { first = 45; rest = ds; is = is; head = (omega arith, omega arith, omega arith, omega arith) }
number_head z false s ds n is = let h = digits_head z ds n in record { first = h.first; rest = h.rest; is = is ∙ h.is; head = h.head }

spelled_head : (s : List ℕ) (v : Value) → Spells s v → HasHead v s
spelled_head s (values.Int z) spells = let form = spells.form in number_head z form.negative s form.digits form.numeral form.laid
spelled_head s (values.Bool true) spells = record { first = 116; rest = drop 1 s; is = spells.form ∙ ap (λ (x : List ℕ). 116 ∷ x) (sym (ap (drop 1) spells.form)); head = refl }
spelled_head s (values.Bool false) spells = record { first = 102; rest = drop 1 s; is = spells.form ∙ ap (λ (x : List ℕ). 102 ∷ x) (sym (ap (drop 1) spells.form)); head = refl }
spelled_head s (values.Text t) spells =
    let form = spells.form in
    record { first = 34; rest = concat form.opens.pieces ++ 34 ∷ []; is = form.closed ∙ ap (λ (x : List ℕ). x ++ 34 ∷ []) form.opens.laid; head = refl }

head_is : (v : Value) (b : ℕ) (x s rest : List ℕ) → b ∷ x ≡ s ++ rest → HasHead v s → IsHead v b
head_is v b x s rest front h = let same : b ≡ h.first = ap (λ (l : List ℕ). get_or l 0 0) (front ∙ ap (λ (l : List ℕ). l ++ rest) h.is) in subst (IsHead v) (sym same) h.head

-- what begins bytes has its head first
pub begins_head : (b : ℕ) (x : List ℕ) (v : Value) (n : ℕ) → BeginsSpelled (b ∷ x) v n → IsHead v b
begins_head b x v n begins = head_is v b x begins.spelling begins.rest begins.front (spelled_head begins.spelling v begins.spells)

pub begins_none : (v : Value) (n : ℕ) → BeginsSpelled [] v n → ⊥
begins_none v n begins = let h = spelled_head begins.spelling v begins.spells in let e : [] ≡ (h.first ∷ h.rest) ++ begins.rest = begins.front ∙ ap (λ (l : List ℕ). l ++ begins.rest) h.is in absurd cc

-- a text that is too long has its quote first
pub quote_first : (b : ℕ) (x : List ℕ) (at : ℕ) → IsTooLong (b ∷ x) at → b ≢ 34 → ⊥
quote_first b x zero long other = let e : [] ≡ 34 ∷ concat long.opens.pieces = long.opens.laid in absurd cc
quote_first b x (suc at) long other = other (ap (λ (l : List ℕ). get_or l 0 0) long.opens.laid)

-- ---- what can go on

pub goes_less : (x y : List ℕ) → CanGoOn (x ++ y) → CanGoOn x
goes_less x y on = record { more = y ++ on.more; value = on.value; spells = subst (λ (s : List ℕ). Spells s on.value) (append_assoc x y on.more) on.spells }

ends_at_end : (v : Value) → EndsBefore v []
ends_at_end (values.Int z) = tt
ends_at_end (values.Bool b) = tt
ends_at_end (values.Text t) = tt

-- where nothing goes on from bytes, they can't go on
pub cannot_go_on : (p : List ℕ) → ((y : List ℕ) (v : Value) (n : ℕ) → BeginsSpelled (p ++ y) v n → ⊥) → CanGoOn p → ⊥
cannot_go_on p dead on = dead on.more on.value (length (p ++ on.more)) (record { spelling = p ++ on.more; rest = []; spells = on.spells; ends = ends_at_end on.value; front = sym (append-nil (p ++ on.more)); long = refl })

-- ---- what begins with a quote

pub record AsText (x : List ℕ) (v : Value) (n : ℕ) : Type 0 where
  pub text : List ℕ
  pub parts : List (List ℕ)
  pub rest : List ℕ
  pub each : SpellEach parts text
  pub few : length text ≤ TEXT_LIMIT
  pub value : v ≡ values.Text text
  pub laid : x ≡ concat parts ++ 34 ∷ rest
  pub long : n ≡ length (concat parts) + 2

pub as_text : (x : List ℕ) (v : Value) (n : ℕ) → BeginsSpelled (34 ∷ x) v n → AsText x v n
as_text x (values.Int z) n begins = absurd (let h = begins_head 34 x (values.Int z) n begins in omega arith)
as_text x (values.Bool true) n begins = absurd (let h = begins_head 34 x (values.Bool true) n begins in omega arith)
as_text x (values.Bool false) n begins = absurd (let h = begins_head 34 x (values.Bool false) n begins in omega arith)
as_text x (values.Text u) n begins =
    let form = begins.spells.form in
    let parts = form.opens.pieces in
    let is : begins.spelling ≡ 34 ∷ (concat parts ++ 34 ∷ []) = form.closed ∙ ap (λ (l : List ℕ). l ++ 34 ∷ []) form.opens.laid in
    record {
      text = u;
      parts = parts;
      rest = begins.rest;
      each = form.opens.each;
      few = begins.spells.is_value.1;
      value = refl;
      laid = ap (drop 1) (begins.front ∙ ap (λ (l : List ℕ). l ++ begins.rest) is) ∙ append_assoc (concat parts) (34 ∷ []) begins.rest;
      long = begins.long ∙ ap length is ∙ omega (arith, length-append (concat parts) (34 ∷ []));
    }
