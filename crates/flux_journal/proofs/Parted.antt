-- What begins a text begins it in one way.
use Rattle.std.proofs.Common.{◌≡◌, ◌⊎◌, inl, inr, ℕ, true, false, List, [], ◌∷◌, ◌++◌, length, drop, None, Ok, Err, refl, sym, ap, ◌∙◌, subst, arith}
use Rattle.std.specs.Fmt.{decimal}
use Rattle.std.proofs.lemmas.List.{append-nil, append_cancel_left, drop_at}
use Rattle.flux_values.specs.declared.values.Value.{Value}
use Rattle.flux_values.specs.declared.values.Value.TheVariants as values
use Rattle.flux_values.specs.declared.failures.ValueFault.TheVariants as value_faults
use Rattle.flux_values.specs.Spellings.{BeginsSpelled, BeginsDecimal, HasCause, IsDecimalRead}
use Rattle.flux_spelling.proofs.Causes.{one_value, too_long_no_value}
use Rattle.flux_spelling.proofs.Decimals.{one_decimal}
use Rattle.flux_spelling.proofs.Fronts.{IsHead, begins_head}
use Rattle.flux_journal.specs.Spelled.{BeginEach, BeginsValue, BeginsCode}

-- the same was given, with the same after it
pub record Same {X : Type 0} (x y : X) (a b : List ℕ) : Type 0 where
  pub given : x ≡ y
  pub rest : a ≡ b

-- what follows a word
pub behind_word : (word a b text : List ℕ) → text ≡ word ++ a → text ≡ word ++ b → a ≡ b
behind_word word a b text first second = append_cancel_left word a b (sym first ∙ second)

-- ---- values

pub value_spelled : (text : List ℕ) (v : Value) (rest : List ℕ) (b : BeginsValue text v rest) → BeginsSpelled text v (length b.spelling)
value_spelled text v rest b = record { spelling = b.spelling; rest = rest; spells = b.spells; ends = b.ends; front = b.laid; long = refl }

same_rest : (s t a b : List ℕ) → s ++ a ≡ t ++ b → length s ≡ length t → a ≡ b
same_rest s t a b e n = sym (drop_at s a (length s) refl) ∙ ap (drop (length s)) e ∙ ap (λ (k : ℕ). drop k (t ++ b)) n ∙ drop_at t b (length t) refl

pub value_once : (text : List ℕ) (v w : Value) (a b : List ℕ) → BeginsValue text v a → BeginsValue text w b → Same v w a b
value_once text v w a b first second =
    let one = one_value text v w (length first.spelling) (length second.spelling) (value_spelled text v a first) (value_spelled text w b second) in
    record { given = one.value; rest = same_rest first.spelling second.spelling a b (sym first.laid ∙ second.laid) one.long }

pub value_read : (text : List ℕ) (v : Value) (n : ℕ) → HasCause (Ok (v, n)) text → BeginsValue text v (drop n text)
value_read text v n cause =
    let b = cause.begins in
    let rest : drop n text ≡ b.rest = ap (drop n) b.front ∙ drop_at b.spelling b.rest n (sym b.long) in
    subst (BeginsValue text v) (sym rest) (record { spelling = b.spelling; spells = b.spells; ends = b.ends; laid = b.front })

pub value_bad : (text : List ℕ) (at : ℕ) → HasCause (Err (value_faults.BadValue at)) text → (v : Value) (tail : List ℕ) → BeginsValue text v tail → ⊥
value_bad text at cause v tail b = cause.no_value v (length b.spelling) (value_spelled text v tail b)

pub value_long : (text : List ℕ) (at : ℕ) → HasCause (Err (value_faults.TooLong at)) text → (v : Value) (tail : List ℕ) → BeginsValue text v tail → ⊥
value_long text at cause v tail b = too_long_no_value text at v (length b.spelling) cause (value_spelled text v tail b)

-- no value begins with `)`
pub no_value_closed : (text rest : List ℕ) (v : Value) (tail : List ℕ) → text ≡ 41 ∷ rest → BeginsValue text v tail → ⊥
no_value_closed text rest v tail is b = no_head v (begins_head 41 rest v (length b.spelling) (subst (λ (t : List ℕ). BeginsSpelled t v (length b.spelling)) is (value_spelled text v tail b)))
  where
    no_head : (w : Value) → IsHead w 41 → ⊥
    no_head (values.Int z) h = omega arith
    no_head (values.Bool true) h = omega arith
    no_head (values.Bool false) h = omega arith
    no_head (values.Text t) h = omega arith

-- ---- codes

pub code_read : (text : List ℕ) (code n : ℕ) → BeginsDecimal text 65535 code n → BeginsCode text code (drop n text)
code_read text code n b =
    let rest : drop n text ≡ b.rest = ap (drop n) b.front ∙ drop_at (decimal code) b.rest n (sym b.long) in
    subst (BeginsCode text code) (sym rest) (record { small = omega (arith, b.small); ends = b.ends; laid = b.front })

pub code_none : (text : List ℕ) → IsDecimalRead text 65535 None → (code : ℕ) (tail : List ℕ) → BeginsCode text code tail → ⊥
code_none text none code tail b = none code (length (decimal code)) (record { rest = tail; small = omega (arith, b.small); front = b.laid; ends = b.ends; long = refl })

pub code_once : (text : List ℕ) (c d : ℕ) (a b : List ℕ) → BeginsCode text c a → BeginsCode text d b → Same c d a b
code_once text c d a b first second =
    let one = one_decimal 65535 c d a b (omega arith) (omega (arith, first.small)) (omega (arith, second.small)) first.ends second.ends (sym first.laid ∙ second.laid) in
    record { given = one.0; rest = one.1 }

-- ---- parts one after the other

module _ {X : Type 0} (Part : List ℕ → X → List ℕ → Type 0) (once : (text : List ℕ) (x y : X) (a b : List ℕ) → Part text x a → Part text y b → Same x y a b) where
  -- one list goes on with more parts than the other
  pub record GoesOn (xs ys : List X) (a b : List ℕ) : Type 0 where
    pub more : List X
    pub are : ys ≡ xs ++ more
    pub each : BeginEach Part a more b

  pub each_alike : (xs ys : List X) (text a b : List ℕ) → BeginEach Part text xs a → BeginEach Part text ys b → GoesOn xs ys a b ⊎ GoesOn ys xs b a
  each_alike [] ys text a b first second = inl (record { more = ys; are = refl; each = subst (λ (t : List ℕ). BeginEach Part t ys b) first second })
  each_alike (x ∷ xs) [] text a b first second = inr (record { more = x ∷ xs; are = refl; each = subst (λ (t : List ℕ). BeginEach Part t (x ∷ xs) a) second first })
  each_alike (x ∷ xs) (y ∷ ys) text a b first second =
      let one = once text x y first.rest second.rest first.part second.part in
      elim (each_alike xs ys first.rest a b first.then_ (subst (λ (t : List ℕ). BeginEach Part t ys b) (sym one.rest) second.then_)) [
        | inl on ↦ inl (record { more = on.more; are = ap (λ (z : X). z ∷ ys) (sym one.given) ∙ ap (λ (l : List X). x ∷ l) on.are; each = on.each })
        | inr on ↦ inr (record { more = on.more; are = ap (λ (z : X). z ∷ xs) one.given ∙ ap (λ (l : List X). y ∷ l) on.are; each = on.each })
      ]

  -- a part more
  pub each_push : (xs : List X) (x : X) (text a b : List ℕ) → BeginEach Part text xs a → Part a x b → BeginEach Part text (xs ++ x ∷ []) b
  each_push [] x text a b each part = record { rest = b; part = subst (λ (t : List ℕ). Part t x b) (sym each) part; then_ = refl }
  each_push (y ∷ xs) x text a b each part = record { rest = each.rest; part = each.part; then_ = each_push xs x each.rest a b each.then_ part }

  -- where no part begins what is left, these are all
  pub over : (more : List X) (a b : List ℕ) → ((x : X) (tail : List ℕ) → Part a x tail → ⊥) → BeginEach Part a more b → (more ≡ []) × (a ≡ b)
  over [] a b none each = (refl, each)
  over (x ∷ more) a b none each = absurd (none x each.rest each.part)

  pub each_once : (xs ys : List X) (text a b : List ℕ) → ((x : X) (tail : List ℕ) → Part a x tail → ⊥) → ((x : X) (tail : List ℕ) → Part b x tail → ⊥) → BeginEach Part text xs a → BeginEach Part text ys b → Same xs ys a b
  each_once xs ys text a b none_a none_b first second = elim (each_alike xs ys text a b first second) [
    | inl on ↦ let o = over on.more a b none_a on.each in record { given = sym (on.are ∙ ap (λ (l : List X). xs ++ l) o.0 ∙ append-nil xs); rest = o.1 }
    | inr on ↦ let o = over on.more b a none_b on.each in record { given = on.are ∙ ap (λ (l : List X). ys ++ l) o.0 ∙ append-nil ys; rest = sym o.1 }
  ]
