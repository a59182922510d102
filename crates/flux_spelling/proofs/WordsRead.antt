-- What the reader of `true` and `false` may answer, and of bytes that begin nothing.
use Rattle.std.proofs.Common.{◌≡◌, ◌≢◌, ◌⊎◌, inl, inr, ℕ, ◌+◌, ◌<◌, ◌≤◌, Bool, true, false, List, [], ◌∷◌, ◌++◌, length, take, drop, get_or, refl, sym, ap, ◌∙◌, arith, subst, Some, None, slice_get}
use Rattle.std.proofs.lemmas.List.{length-append, take-append-drop, length-take-le, get_or-take, get_or_append_left}
use Rattle.std.specs.Char.{is_ascii_digit}
use Rattle.std.proofs.lemmas.Bool.Decides.{nat_tests}
use Rattle.flux_values.specs.declared.values.Value.{Value}
use Rattle.flux_values.specs.declared.values.Value.TheVariants as values
use Rattle.flux_values.specs.Texts.{printed_bool}
use Rattle.flux_values.specs.Spellings.{BeginsSpelled, IsLongest, CanGoOn, IsTooLong, IsBadValue}
use Rattle.flux_spelling.proofs.Fronts.{IsHead, begins_head, begins_none, cannot_go_on, quote_first}

head_at : (x : List ℕ) (v : Value) (n : ℕ) → BeginsSpelled x v n → IsHead v (get_or x 0 0)
head_at [] v n begins = absurd (begins_none v n begins)
head_at (b ∷ x) v n begins = begins_head b x v n begins

no_text_at : (x : List ℕ) (at : ℕ) → IsTooLong x at → get_or x 0 0 ≢ 34 → ⊥
no_text_at [] at long other = let lt = long.within in omega arith
no_text_at (b ∷ x) at long other = quote_first b x at long other

-- what begins with a word's first byte begins with the word
pub record AsWord (truth : Bool) (x : List ℕ) (v : Value) (n : ℕ) : Type 0 where
  pub rest : List ℕ
  pub value : v ≡ values.Bool truth
  pub laid : x ≡ printed_bool truth ++ rest
  pub long : n ≡ length (printed_bool truth)

of_bool : (truth : Bool) (x : List ℕ) (n : ℕ) → BeginsSpelled x (values.Bool truth) n → AsWord truth x (values.Bool truth) n
of_bool truth x n begins = record { rest = begins.rest; value = refl; laid = begins.front ∙ ap (λ (l : List ℕ). l ++ begins.rest) begins.spells.form; long = begins.long ∙ ap length begins.spells.form }

pub as_word : (truth : Bool) (x : List ℕ) (v : Value) (n : ℕ) → get_or x 0 0 ≡ get_or (printed_bool truth) 0 0 → BeginsSpelled x v n → AsWord truth x v n
as_word true x (values.Bool true) n first begins = of_bool true x n begins
as_word false x (values.Bool false) n first begins = of_bool false x n begins
as_word true x (values.Bool false) n first begins = absurd (let h = head_at x (values.Bool false) n begins in omega arith)
as_word false x (values.Bool true) n first begins = absurd (let h = head_at x (values.Bool true) n begins in omega arith)
as_word true x (values.Int z) n first begins = absurd (let h = head_at x (values.Int z) n begins in omega arith)
as_word false x (values.Int z) n first begins = absurd (let h = head_at x (values.Int z) n begins in omega arith)
as_word true x (values.Text t) n first begins = absurd (let h = head_at x (values.Text t) n begins in omega arith)
as_word false x (values.Text t) n first begins = absurd (let h = head_at x (values.Text t) n begins in omega arith)

no_word_text : (truth : Bool) (x : List ℕ) (at : ℕ) → get_or x 0 0 ≡ get_or (printed_bool truth) 0 0 → IsTooLong x at → ⊥
no_word_text true x at first long = no_text_at x at long (omega arith)
no_word_text false x at first long = no_text_at x at long (omega arith)

-- a word is read
pub word_read : (truth : Bool) (bytes : List ℕ) (at : ℕ) → get_or bytes 0 0 ≡ get_or (printed_bool truth) 0 0 → at ≡ length (printed_bool truth) → take at bytes ≡ printed_bool truth → IsLongest bytes (values.Bool truth) at
word_read truth bytes at first long is = record {
  begins = record { spelling = printed_bool truth; rest = drop at bytes; spells = record { is_value = tt; form = refl }; ends = tt; front = sym (take-append-drop at bytes) ∙ ap (λ (l : List ℕ). l ++ drop at bytes) is; long = long };
  longest = λ other m begins. let a = as_word truth bytes other m first begins in omega (arith, a.long);
}

-- bytes and a word part at a place
pub record HavePart (bytes word : List ℕ) (at : ℕ) : Type 0 where
  pub within : at ≤ length bytes
  pub in_word : at < length word
  pub same : take at bytes ≡ take at word
  pub part : (at ≡ length bytes) ⊎ (get_or bytes at 0 ≢ get_or word at 0)
  pub first : get_or bytes 0 0 ≡ get_or word 0 0
  pub some : 0 < length bytes

none_parted : (word bytes rest : List ℕ) (at : ℕ) → HavePart bytes word at → bytes ≡ word ++ rest → ⊥
none_parted word bytes rest at p is =
    elim p.part [
      | inl end ↦ omega (arith, p.in_word, ap length is, length-append word rest)
      | inr other ↦ other (ap (λ (l : List ℕ). get_or l at 0) is ∙ get_or_append_left word rest 0 at p.in_word)
    ]

get_again : (bytes y : List ℕ) (at k : ℕ) → k ≤ at → at < length bytes → get_or (take (at + 1) bytes ++ y) k 0 ≡ get_or bytes k 0
get_again bytes y at k le lt = get_or_append_left (take (at + 1) bytes) y 0 k (omega (arith, length-take-le (at + 1) bytes (omega arith))) ∙ get_or-take (at + 1) bytes k 0 (omega arith)

after_part : (truth : Bool) (bytes : List ℕ) (at : ℕ) → HavePart bytes (printed_bool truth) at → at < length bytes → (y : List ℕ) (v : Value) (n : ℕ) → BeginsSpelled (take (at + 1) bytes ++ y) v n → ⊥
after_part truth bytes at p lt y v n begins =
    let word = printed_bool truth in
    let a = as_word truth (take (at + 1) bytes ++ y) v n (get_again bytes y at 0 (omega arith) lt ∙ p.first) begins in
    elim p.part [
      | inl end ↦ omega arith
      | inr other ↦ other (sym (get_again bytes y at at (omega arith) lt) ∙ ap (λ (l : List ℕ). get_or l at 0) a.laid ∙ get_or_append_left word a.rest 0 at p.in_word)
    ]

pub word_parts : (truth : Bool) (bytes : List ℕ) (at : ℕ) → HavePart bytes (printed_bool truth) at → IsBadValue bytes at
word_parts truth bytes at p =
    let word = printed_bool truth in
    record {
      no_value = λ v n begins. let a = as_word truth bytes v n p.first begins in none_parted word bytes a.rest at p a.laid;
      no_text = λ place long. no_word_text truth bytes place p.first long;
      within = p.within;
      before = record { more = drop at word; value = values.Bool truth; spells = record { is_value = tt; form = ap (λ (l : List ℕ). l ++ drop at word) p.same ∙ take-append-drop at word } };
      after = λ lt. cannot_go_on (take (at + 1) bytes) (after_part truth bytes at p lt);
    }

-- a byte with which no spelling begins
pub record BeginsNothing (b : ℕ) : Type 0 where
  pub sign : b ≢ 45
  pub digit : is_ascii_digit b ≡ false
  pub true_word : b ≢ 116
  pub false_word : b ≢ 102
  pub text : b ≢ 34

not_head : (b : ℕ) (v : Value) → BeginsNothing b → IsHead v b → ⊥
not_head b (values.Int z) none head = none.sign (let other = none.digit in let low : b < 48 = grind (arith, nat_tests) in omega (arith, head.0, head.2, head.3))
not_head b (values.Bool true) none head = none.true_word head
not_head b (values.Bool false) none head = none.false_word head
not_head b (values.Text t) none head = none.text head

empty_goes_on : CanGoOn []
empty_goes_on = record { more = printed_bool true; value = values.Bool true; spells = record { is_value = tt; form = refl } }

pub nothing_empty : IsBadValue [] 0
nothing_empty = record {
  no_value = begins_none;
  no_text = λ place long. let lt = long.within in omega arith;
  within = omega arith;
  before = empty_goes_on;
  after = λ lt. absurd (omega arith);
}

pub nothing_begins : (b : ℕ) (x : List ℕ) → BeginsNothing b → IsBadValue (b ∷ x) 0
nothing_begins b x none = record {
  no_value = λ v n begins. not_head b v none (begins_head b x v n begins);
  no_text = λ place long. quote_first b x place long none.text;
  within = omega arith;
  before = empty_goes_on;
  after = λ lt. cannot_go_on (b ∷ []) (λ y v n begins. not_head b v none (begins_head b y v n begins));
}

-- the same of bytes by what is first
pub nothing_none : (bytes : List ℕ) → None ≡ slice_get bytes 0 → IsBadValue bytes 0
nothing_none [] none = nothing_empty
nothing_none (b ∷ x) none = absurd cc

pub nothing_some : (bytes : List ℕ) (b : ℕ) → Some b ≡ slice_get bytes 0 → BeginsNothing b → IsBadValue bytes 0
nothing_some [] b some none = absurd cc
nothing_some (c ∷ x) b some none = nothing_begins c x (subst BeginsNothing (let same : b ≡ c = cc in same) none)
