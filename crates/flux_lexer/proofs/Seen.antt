-- What the lexer sees at a front is what begins the text, and nothing else does.
use Rattle.std.proofs.Common.{◌≡◌, ℕ, zero, suc, ◌+◌, ◌<◌, ◌≤◌, ◌⊎◌, inl, inr, Bool, true, false, cond, eqb, ltb, List, [], ◌∷◌, length, take, Option, Some, None, refl, sym, ap, subst, ◌∙◌, arith}
use Rattle.std.specs.List.{prefix_len, list_all}
use Rattle.std.specs.Str.{bytes_eq}
use Rattle.std.proofs.Math.Numerals.{one-add}
use Rattle.std.proofs.lemmas.Bool.{cond-true, cond-false, or_left, ltb-false}
use Rattle.std.proofs.lemmas.Bool.Decides.{nat_tests}
use Rattle.std.proofs.lemmas.Slice.Eq.{bytes_eq-Decides}
use Rattle.flux_values.specs.declared.texts.TheConstants.{TEXT_LIMIT}
use Rattle.flux_lexer.specs.declared.kinds.TokenKind.{TokenKind}
use Rattle.flux_lexer.specs.declared.kinds.TokenKind.TheVariants as kinds
use Rattle.flux_lexer.specs.declared.fronts.Front.{Front}
use Rattle.flux_lexer.specs.declared.fronts.Front.TheVariants as fronts
use Rattle.flux_values.specs.Identifiers.{is_digit, is_word_start, is_word_byte, is_word}
use Rattle.flux_lexer.specs.Kinds.{is_number, word_kind, single, double, mark_kind, kind_of}
use Rattle.flux_lexer.specs.Pieces.{Piece, blank, remark, comment, token, is_blank, close_of, IsToken, Begins, BeginsNone, IsUnclosed}
use Rattle.flux_lexer.specs.steps.Fronts.{limited, comment_front, slash_front, arrow_front, single_front, front_from, front_of}

-- ---- words

start_is_byte : (b : ℕ) → is_word_start b ≡ true → is_word_byte b ≡ true
start_is_byte b e = or_left _ _ e

all_prefix : (p : ℕ → Bool) (xs : List ℕ) → list_all p (take (prefix_len p xs) xs) ≡ true
all_prefix p [] = refl
all_prefix p (x ∷ xs) = one (p x) refl (all_prefix p xs)
  where
    one : (t : Bool) → p x ≡ t → list_all p (take (prefix_len p xs) xs) ≡ true → list_all p (take (prefix_len p (x ∷ xs)) (x ∷ xs)) ≡ true
    one true e more = rw (e, one-add) (rw e more)
    one false e more = rw e refl

all_past : (p : ℕ → Bool) (xs : List ℕ) (m : ℕ) → prefix_len p xs < m → m ≤ length xs → list_all p (take m xs) ≡ false
all_past p [] m lt le = absurd (omega (arith, lt, le))
all_past p (x ∷ xs) zero lt le = absurd (omega arith)
all_past p (x ∷ xs) (suc m) lt le = one (p x) refl lt (λ more. all_past p xs m more (omega (arith, le)))
  where
    one : (t : Bool) → p x ≡ t → prefix_len p (x ∷ xs) < suc m → (prefix_len p xs < m → list_all p (take m xs) ≡ false) → list_all p (take (suc m) (x ∷ xs)) ≡ false
    one true e lt more = rw e (more (let h : 1 + prefix_len p xs < suc m = rw e at lt in omega (arith, h)))
    one false e lt more = rw e refl

word_taken : (b : ℕ) (rest : List ℕ) → is_word_start b ≡ true → is_word (take (prefix_len is_word_byte (b ∷ rest)) (b ∷ rest)) ≡ true
word_taken b rest e = rw (start_is_byte b e, one-add) (rw e (all_prefix is_word_byte rest))

word_past : (b : ℕ) (rest : List ℕ) (m : ℕ) → is_word_start b ≡ true → prefix_len is_word_byte (b ∷ rest) < m → m ≤ length (b ∷ rest) → is_word (take m (b ∷ rest)) ≡ false
word_past b rest zero e lt le = absurd (omega arith)
word_past b rest (suc m) e lt le =
    let h : 1 + prefix_len is_word_byte rest < suc m = rw (start_is_byte b e) at lt in
    rw e (all_past is_word_byte rest m (omega (arith, h)) (omega (arith, le)))

positive : (b : ℕ) (rest : List ℕ) → is_word_start b ≡ true → 0 < prefix_len is_word_byte (b ∷ rest)
positive b rest e = rw (start_is_byte b e) (omega arith)

-- a prefix lies in the list
pub within : (p : ℕ → Bool) (xs : List ℕ) → prefix_len p xs ≤ length xs
within p [] = omega arith
within p (x ∷ xs) = one (p x) refl (within p xs)
  where
    one : (t : Bool) → p x ≡ t → prefix_len p xs ≤ length xs → prefix_len p (x ∷ xs) ≤ length (x ∷ xs)
    one true e more = rw e (omega (arith, more))
    one false e more = rw e (omega arith)

no_start_no_word : (b : ℕ) (rest : List ℕ) (m : ℕ) → is_word_start b ≡ false → is_word (take m (b ∷ rest)) ≡ false
no_start_no_word b rest zero e = refl
no_start_no_word b rest (suc m) e = rw e refl

no_digit_no_number : (b : ℕ) (rest : List ℕ) (m : ℕ) → is_digit b ≡ false → is_number (take m (b ∷ rest)) ≡ false
no_digit_no_number b rest zero e = refl
no_digit_no_number b rest (suc m) e = rw e refl

-- two bytes and more that don't begin as an arrow are no mark
no_arrow : (b : ℕ) (rest : List ℕ) (m : ℕ) → eqb b 45 ≡ false → eqb b 61 ≡ false → 1 < m → m ≤ length (b ∷ rest) → mark_kind (take m (b ∷ rest)) ≡ None
no_arrow b rest zero d e lt le = absurd (omega arith)
no_arrow b rest (suc zero) d e lt le = absurd (omega arith)
no_arrow b [] (suc (suc m)) d e lt le = absurd (omega (arith, le))
no_arrow b (c ∷ rest) (suc (suc m)) d e lt le = rw (d, e) refl

start_not_dash : (b : ℕ) → is_word_start b ≡ true → eqb b 45 ≡ false
start_not_dash b e = grind (arith, nat_tests)

start_not_equals : (b : ℕ) → is_word_start b ≡ true → eqb b 61 ≡ false
start_not_equals b e = grind (arith, nat_tests)

start_no_digit : (b : ℕ) → is_word_start b ≡ true → is_digit b ≡ false
start_no_digit b e = grind (arith, nat_tests)

-- the longest word at the front is a token, where it isn't too long
word_token : (b : ℕ) (rest : List ℕ) → is_word_start b ≡ true → prefix_len is_word_byte (b ∷ rest) ≤ TEXT_LIMIT
    → IsToken (word_kind (take (prefix_len is_word_byte (b ∷ rest)) (b ∷ rest))) (prefix_len is_word_byte (b ∷ rest)) (b ∷ rest)
word_token b rest e short = record {
  within = within is_word_byte (b ∷ rest);
  spelled = rw (word_taken b rest e) refl;
  longest = λ m lt le. rw (word_past b rest m e lt le, no_digit_no_number b rest m (start_no_digit b e))
      (no_arrow b rest m (start_not_dash b e) (start_not_equals b e) (omega (arith, positive b rest e, lt)) le);
  short = short;
}

-- ---- numbers

digit_no_start : (b : ℕ) → is_digit b ≡ true → is_word_start b ≡ false
digit_no_start b e = grind (arith, nat_tests)

digit_not_dash : (b : ℕ) → is_digit b ≡ true → eqb b 45 ≡ false
digit_not_dash b e = grind (arith, nat_tests)

digit_not_equals : (b : ℕ) → is_digit b ≡ true → eqb b 61 ≡ false
digit_not_equals b e = grind (arith, nat_tests)

number_taken : (b : ℕ) (rest : List ℕ) → is_digit b ≡ true → is_number (take (prefix_len is_digit (b ∷ rest)) (b ∷ rest)) ≡ true
number_taken b rest e = rw (e, one-add) (rw e (all_prefix is_digit rest))

number_past : (b : ℕ) (rest : List ℕ) (m : ℕ) → is_digit b ≡ true → prefix_len is_digit (b ∷ rest) < m → m ≤ length (b ∷ rest) → is_number (take m (b ∷ rest)) ≡ false
number_past b rest zero e lt le = absurd (omega arith)
number_past b rest (suc m) e lt le =
    let h : 1 + prefix_len is_digit rest < suc m = rw e at lt in
    rw e (all_past is_digit rest m (omega (arith, h)) (omega (arith, le)))

one_digit : (b : ℕ) (rest : List ℕ) → is_digit b ≡ true → 0 < prefix_len is_digit (b ∷ rest)
one_digit b rest e = rw e (omega arith)

-- the longest number at the front is a token, where it isn't too long
number_token : (b : ℕ) (rest : List ℕ) → is_digit b ≡ true → prefix_len is_digit (b ∷ rest) ≤ TEXT_LIMIT → IsToken kinds.Number (prefix_len is_digit (b ∷ rest)) (b ∷ rest)
number_token b rest e short = record {
  within = within is_digit (b ∷ rest);
  spelled = rw (no_start_no_word b rest (prefix_len is_digit (b ∷ rest)) (digit_no_start b e), number_taken b rest e) refl;
  longest = λ m lt le. rw (no_start_no_word b rest m (digit_no_start b e), number_past b rest m e lt le)
      (no_arrow b rest m (digit_not_dash b e) (digit_not_equals b e) (omega (arith, one_digit b rest e, lt)) le);
  short = short;
}

-- ---- marks

no_word : (b : ℕ) (bytes : List ℕ) → is_word_start b ≡ false → is_digit b ≡ false → kind_of (b ∷ bytes) ≡ mark_kind (b ∷ bytes)
no_word b bytes e d = rw (e, d) refl

double_is : (bytes : List ℕ) (kind : TokenKind) → double bytes ≡ Some kind → ((bytes ≡ 45 ∷ 62 ∷ []) × (kind ≡ kinds.ThinArrow)) ⊎ ((bytes ≡ 61 ∷ 62 ∷ []) × (kind ≡ kinds.Arrow))
double_is bytes kind is = one (bytes_eq bytes (45 ∷ 62 ∷ [])) refl (bytes_eq bytes (61 ∷ 62 ∷ [])) refl
  where
    one : (t : Bool) → bytes_eq bytes (45 ∷ 62 ∷ []) ≡ t → (u : Bool) → bytes_eq bytes (61 ∷ 62 ∷ []) ≡ u → ((bytes ≡ 45 ∷ 62 ∷ []) × (kind ≡ kinds.ThinArrow)) ⊎ ((bytes ≡ 61 ∷ 62 ∷ []) × (kind ≡ kinds.Arrow))
    one true e u f = inl ((bytes_eq-Decides bytes (45 ∷ 62 ∷ [])).0 e, let h : ◌≡◌ {A = Option TokenKind} (Some kinds.ThinArrow) (Some kind) = rw e at is in cc)
    one false e true f = inr ((bytes_eq-Decides bytes (61 ∷ 62 ∷ [])).0 f, let h : ◌≡◌ {A = Option TokenKind} (Some kinds.Arrow) (Some kind) = rw (e, f) at is in cc)
    one false e false f = let h : ◌≡◌ {A = Option TokenKind} None (Some kind) = rw (e, f) at is in absurd cc

blank_no_single : (b : ℕ) → is_blank b ≡ true → single b ≡ None
blank_no_single b e =
    let h40 : eqb b 40 ≡ false = grind (arith, nat_tests) in
    let h41 : eqb b 41 ≡ false = grind (arith, nat_tests) in
    let h91 : eqb b 91 ≡ false = grind (arith, nat_tests) in
    let h93 : eqb b 93 ≡ false = grind (arith, nat_tests) in
    let h123 : eqb b 123 ≡ false = grind (arith, nat_tests) in
    let h125 : eqb b 125 ≡ false = grind (arith, nat_tests) in
    let h44 : eqb b 44 ≡ false = grind (arith, nat_tests) in
    let h59 : eqb b 59 ≡ false = grind (arith, nat_tests) in
    let h58 : eqb b 58 ≡ false = grind (arith, nat_tests) in
    let h61 : eqb b 61 ≡ false = grind (arith, nat_tests) in
    let h42 : eqb b 42 ≡ false = grind (arith, nat_tests) in
    let h63 : eqb b 63 ≡ false = grind (arith, nat_tests) in
    let h33 : eqb b 33 ≡ false = grind (arith, nat_tests) in
    rw (h40, h41, h91, h93, h123, h125, h44, h59, h58, h61, h42, h63, h33) refl

blank_no_start : (b : ℕ) → is_blank b ≡ true → is_word_start b ≡ false
blank_no_start b e = grind (arith, nat_tests)

blank_no_digit : (b : ℕ) → is_blank b ≡ true → is_digit b ≡ false
blank_no_digit b e = grind (arith, nat_tests)

eqb_is : (a b : ℕ) → eqb a b ≡ true → a ≡ b
eqb_is a b e = grind (arith, nat_tests)

-- one byte, and no two spell a token
single_token : (b : ℕ) (rest : List ℕ) (kind : TokenKind) → is_word_start b ≡ false → is_digit b ≡ false → single b ≡ Some kind → ((c : ℕ) (more : List ℕ) → rest ≡ c ∷ more → double (b ∷ c ∷ []) ≡ None) → IsToken kind 1 (b ∷ rest)
single_token b rest kind e d is no_double = record {
  within = omega arith;
  spelled = rw (e, d) is;
  longest = past rest no_double;
  short = omega arith;
}
  where
    past : (rest : List ℕ) → ((c : ℕ) (more : List ℕ) → rest ≡ c ∷ more → double (b ∷ c ∷ []) ≡ None) → (m : ℕ) → 1 < m → m ≤ length (b ∷ rest) → kind_of (take m (b ∷ rest)) ≡ None
    past rest none zero lt le = absurd (omega arith)
    past rest none (suc zero) lt le = absurd (omega arith)
    past [] none (suc (suc m)) lt le = absurd (omega (arith, le))
    past (c ∷ more) none (suc (suc m)) lt le = no_word b (c ∷ take m more) e d ∙ longer (take m more) (none c more refl)
      where
        longer : (l : List ℕ) → double (b ∷ c ∷ []) ≡ None → double (b ∷ c ∷ l) ≡ None
        longer [] h = h
        longer (x ∷ l) h = one (double (b ∷ c ∷ x ∷ l)) refl
          where
            one : (o : Option TokenKind) → double (b ∷ c ∷ x ∷ l) ≡ o → double (b ∷ c ∷ x ∷ l) ≡ None
            one None e = e
            one (Some k) e = absurd (elim (double_is (b ∷ c ∷ x ∷ l) k e) [ inl d ↦ let f = d.0 in cc | inr d ↦ let f = d.0 in cc ])

double_token : (b c : ℕ) (rest : List ℕ) (kind : TokenKind) → is_word_start b ≡ false → is_digit b ≡ false → double (b ∷ c ∷ []) ≡ Some kind → IsToken kind 2 (b ∷ c ∷ rest)
double_token b c rest kind e d is = record {
  within = omega arith;
  spelled = no_word b (c ∷ []) e d ∙ is;
  longest = past;
  short = omega arith;
}
  where
    past : (m : ℕ) → 2 < m → m ≤ length (b ∷ c ∷ rest) → kind_of (take m (b ∷ c ∷ rest)) ≡ None
    past zero lt le = absurd (omega arith)
    past (suc zero) lt le = absurd (omega arith)
    past (suc (suc zero)) lt le = absurd (omega arith)
    past (suc (suc (suc m))) lt le = no_word b (take (suc (suc m)) (c ∷ rest)) e d ∙ three rest (omega (arith, le))
      where
        three : (rest : List ℕ) → 0 < length rest → mark_kind (b ∷ take (suc (suc m)) (c ∷ rest)) ≡ None
        three [] lt = absurd (omega arith)
        three (x ∷ rest) lt = one (double (b ∷ c ∷ x ∷ take m rest)) refl
          where
            one : (o : Option TokenKind) → double (b ∷ c ∷ x ∷ take m rest) ≡ o → double (b ∷ c ∷ x ∷ take m rest) ≡ None
            one None e = e
            one (Some k) e = absurd (elim (double_is (b ∷ c ∷ x ∷ take m rest) k e) [ inl d ↦ let f = d.0 in cc | inr d ↦ let f = d.0 in cc ])

-- ---- what is seen begins the text

last_of : {A : Type 0} (s d t u v w : Bool) (a b c e f g h : A) → s ≡ false → d ≡ false → t ≡ false → u ≡ false → v ≡ false → w ≡ false → cond s a (cond d b (cond t c (cond u e (cond v f (cond w g h))))) ≡ h
last_of s d t u v w a b c e f g h hs hd ht hu hv hw = rw (hs, hd, ht, hu, hv, hw) refl

front_single : (b : ℕ) (rest : List ℕ) → is_word_start b ≡ false → is_digit b ≡ false → is_blank b ≡ false → eqb b 47 ≡ false → eqb b 45 ≡ false → eqb b 61 ≡ false → front_from b rest ≡ single_front (single b)
front_single b rest hs hd ht hu hv hw =
    last_of (is_word_start b) (is_digit b) (is_blank b) (eqb b 47) (eqb b 45) (eqb b 61)
    (limited (word_kind (take (prefix_len is_word_byte (b ∷ rest)) (b ∷ rest))) (prefix_len is_word_byte (b ∷ rest))) (limited kinds.Number (prefix_len is_digit (b ∷ rest))) (fronts.Skip 1) (slash_front rest)
    (arrow_front kinds.ThinArrow fronts.Bad rest) (arrow_front kinds.Arrow (fronts.Token kinds.Equals 1) rest) (single_front (single b)) hs hd ht hu hv hw

-- a word's first byte begins a word
pub front_word : (b : ℕ) (rest : List ℕ) → is_word_start b ≡ true → front_from b rest ≡ limited (word_kind (take (prefix_len is_word_byte (b ∷ rest)) (b ∷ rest))) (prefix_len is_word_byte (b ∷ rest))
front_word b rest e = cond-true (is_word_start b) (limited (word_kind (take (prefix_len is_word_byte (b ∷ rest)) (b ∷ rest))) (prefix_len is_word_byte (b ∷ rest))) _ e

-- a digit begins a number
pub front_number : (b : ℕ) (rest : List ℕ) → is_digit b ≡ true → front_from b rest ≡ limited kinds.Number (prefix_len is_digit (b ∷ rest))
front_number b rest d =
    cond-false (is_word_start b) (limited (word_kind (take (prefix_len is_word_byte (b ∷ rest)) (b ∷ rest))) (prefix_len is_word_byte (b ∷ rest))) _ (digit_no_start b d)
    ∙ cond-true (is_digit b) (limited kinds.Number (prefix_len is_digit (b ∷ rest))) _ d

-- what a front says of the text
abbrev pub Sees : List ℕ → Front → Type 0
Sees text (fronts.Skip n) = Begins blank n text ⊎ (Begins remark n text ⊎ Begins comment n text)
Sees text (fronts.Token kind n) = IsToken kind n text
Sees text fronts.Unclosed = IsUnclosed text
Sees text fronts.Bad = Unit {0}

sees_limited : (text : List ℕ) (kind : TokenKind) (n : ℕ) → (n ≤ TEXT_LIMIT → IsToken kind n text) → Sees text (limited kind n)
sees_limited text kind n is = one (ltb TEXT_LIMIT n) refl
  where
    one : (t : Bool) → ltb TEXT_LIMIT n ≡ t → Sees text (limited kind n)
    one true h = rw h tt
    one false h = rw h (is (ltb-false _ _ h))

sees_comment : (rest : List ℕ) (o : Option ℕ) → close_of rest ≡ o → Sees (47 ∷ 42 ∷ rest) (comment_front o)
sees_comment rest None e = (rest, refl, e)
sees_comment rest (Some n) e = inr (inr (rest, refl, n, e, refl))

sees_slash : (rest : List ℕ) → Sees (47 ∷ rest) (slash_front rest)
sees_slash [] = tt
sees_slash (b ∷ rest) = one (eqb b 47) refl (eqb b 42) refl
  where
    one : (t : Bool) → eqb b 47 ≡ t → (u : Bool) → eqb b 42 ≡ u → Sees (47 ∷ b ∷ rest) (slash_front (b ∷ rest))
    one true e u f = rw (eqb_is b 47 e) (inr (inl (rest, refl, refl)))
    one false e true f = rw (eqb_is b 42 f) (sees_comment rest (close_of rest) refl)
    one false e false f = rw (e, f) tt

sees_dash : (rest : List ℕ) → Sees (45 ∷ rest) (arrow_front kinds.ThinArrow fronts.Bad rest)
sees_dash [] = tt
sees_dash (b ∷ rest) = one (eqb b 62) refl
  where
    one : (t : Bool) → eqb b 62 ≡ t → Sees (45 ∷ b ∷ rest) (arrow_front kinds.ThinArrow fronts.Bad (b ∷ rest))
    one true e = rw (eqb_is b 62 e) (double_token 45 62 rest kinds.ThinArrow refl refl refl)
    one false e = rw e tt

sees_equals : (rest : List ℕ) → Sees (61 ∷ rest) (arrow_front kinds.Arrow (fronts.Token kinds.Equals 1) rest)
sees_equals [] = single_token 61 [] kinds.Equals refl refl refl (λ c more e. absurd cc)
sees_equals (b ∷ rest) = one (eqb b 62) refl
  where
    one : (t : Bool) → eqb b 62 ≡ t → Sees (61 ∷ b ∷ rest) (arrow_front kinds.Arrow (fronts.Token kinds.Equals 1) (b ∷ rest))
    one true e = rw (eqb_is b 62 e) (double_token 61 62 rest kinds.Arrow refl refl refl)
    one false e = rw e (single_token 61 (b ∷ rest) kinds.Equals refl refl refl (λ c more is. let same : b ≡ c = cc in rw (← same, e) refl))

sees_single : (b : ℕ) (rest : List ℕ) (o : Option TokenKind) → single b ≡ o → is_word_start b ≡ false → is_digit b ≡ false → eqb b 45 ≡ false → eqb b 61 ≡ false → Sees (b ∷ rest) (single_front o)
sees_single b rest None is e d f g = tt
sees_single b rest (Some kind) is e d f g = single_token b rest kind e d is (λ c more split. rw (f, g) refl)

-- what the lexer sees is there
pub sees : (text : List ℕ) → Sees text (front_of text)
sees [] = tt
sees (b ∷ rest) = one (is_word_start b) refl (is_digit b) refl (is_blank b) refl (eqb b 47) refl (eqb b 45) refl (eqb b 61) refl
  where
    one : (s : Bool) → is_word_start b ≡ s → (d : Bool) → is_digit b ≡ d → (t : Bool) → is_blank b ≡ t → (u : Bool) → eqb b 47 ≡ u → (v : Bool) → eqb b 45 ≡ v → (w : Bool) → eqb b 61 ≡ w → Sees (b ∷ rest) (front_from b rest)
    one true hs d hd t ht u hu v hv w hw =
        subst (Sees (b ∷ rest)) (sym (front_word b rest hs)) (sees_limited (b ∷ rest) (word_kind (take (prefix_len is_word_byte (b ∷ rest)) (b ∷ rest))) (prefix_len is_word_byte (b ∷ rest)) (word_token b rest hs))
    one false hs true hd t ht u hu v hv w hw = subst (Sees (b ∷ rest)) (sym (front_number b rest hd)) (sees_limited (b ∷ rest) kinds.Number (prefix_len is_digit (b ∷ rest)) (number_token b rest hd))
    one false hs false hd true ht u hu v hv w hw = rw (hs, hd, ht) (inl (b, rest, refl, ht, refl))
    one false hs false hd false ht true hu v hv w hw = rw (eqb_is b 47 hu) (sees_slash rest)
    one false hs false hd false ht false hu true hv w hw = rw (eqb_is b 45 hv) (sees_dash rest)
    one false hs false hd false ht false hu false hv true hw = rw (eqb_is b 61 hw) (sees_equals rest)
    one false hs false hd false ht false hu false hv false hw = subst (Sees (b ∷ rest)) (sym (front_single b rest hs hd ht hu hv hw)) (sees_single b rest (single b) refl hs hd hv hw)

-- ---- what begins the text is seen

-- what a piece is for the lexer
abbrev pub as_front : Piece → ℕ → Front
as_front blank n = fronts.Skip n
as_front remark n = fronts.Skip n
as_front comment n = fronts.Skip n
as_front (token kind) n = fronts.Token kind n

record SomeToken (front : Front) : Type 0 where
  kind : TokenKind
  length : ℕ
  is : front ≡ fronts.Token kind length

some_limited : (kind : TokenKind) (n : ℕ) → (TEXT_LIMIT < n → ⊥) → SomeToken (limited kind n)
some_limited kind n short = one (ltb TEXT_LIMIT n) refl
  where
    one : (u : Bool) → ltb TEXT_LIMIT n ≡ u → SomeToken (limited kind n)
    one false h = record { kind = kind; length = n; is = rw h refl }
    one true h = absurd (short (grind (arith, nat_tests)))

-- bytes that are more than a token's spell no kind
no_more : (text : List ℕ) (kind other : TokenKind) (n m : ℕ) → IsToken kind n text → m ≤ length text → kind_of (take m text) ≡ Some other → TEXT_LIMIT < m → ⊥
no_more text kind other n m t le is lt = let clash = sym (t.longest m (omega (arith, lt, t.short)) le) ∙ is in absurd cc

token_word : (b : ℕ) (rest : List ℕ) (kind : TokenKind) (n : ℕ) → IsToken kind n (b ∷ rest) → is_word_start b ≡ true → SomeToken (front_from b rest)
token_word b rest kind n t e =
    let count = prefix_len is_word_byte (b ∷ rest) in
    let own = word_kind (take count (b ∷ rest)) in
    subst SomeToken (sym (front_word b rest e)) (some_limited own count (no_more (b ∷ rest) kind own n count t (within is_word_byte (b ∷ rest)) (rw (word_taken b rest e) refl)))

token_number : (b : ℕ) (rest : List ℕ) (kind : TokenKind) (n : ℕ) → IsToken kind n (b ∷ rest) → is_digit b ≡ true → SomeToken (front_from b rest)
token_number b rest kind n t d =
    let count = prefix_len is_digit (b ∷ rest) in
    let spelled : kind_of (take count (b ∷ rest)) ≡ Some kinds.Number = rw (no_start_no_word b rest count (digit_no_start b d), number_taken b rest d) refl in
    subst SomeToken (sym (front_number b rest d)) (some_limited kinds.Number count (no_more (b ∷ rest) kind kinds.Number n count t (within is_digit (b ∷ rest)) spelled))

some_arrow : (kind : TokenKind) (rest : List ℕ) → SomeToken (arrow_front kind (fronts.Token kinds.Equals 1) rest)
some_arrow kind [] = record { kind = kinds.Equals; length = 1; is = refl }
some_arrow kind (b ∷ rest) = one (eqb b 62) refl
  where
    one : (t : Bool) → eqb b 62 ≡ t → SomeToken (arrow_front kind (fronts.Token kinds.Equals 1) (b ∷ rest))
    one true e = record { kind = kind; length = 2; is = rw e refl }
    one false e = record { kind = kinds.Equals; length = 1; is = rw e refl }

token_single : (b : ℕ) (rest : List ℕ) (kind : TokenKind) → single b ≡ Some kind → is_word_start b ≡ false → is_digit b ≡ false → SomeToken (front_from b rest)
token_single b rest kind is e d = one (is_blank b) refl (eqb b 47) refl (eqb b 45) refl (eqb b 61) refl
  where
    one : (t : Bool) → is_blank b ≡ t → (u : Bool) → eqb b 47 ≡ u → (v : Bool) → eqb b 45 ≡ v → (w : Bool) → eqb b 61 ≡ w → SomeToken (front_from b rest)
    one true ht u hu v hv w hw = let clash = sym (blank_no_single b ht) ∙ is in absurd cc
    one false ht true hu v hv w hw = let clash : ◌≡◌ {A = Option TokenKind} None (Some kind) = rw (eqb_is b 47 hu) at is in absurd cc
    one false ht false hu true hv w hw = let clash : ◌≡◌ {A = Option TokenKind} None (Some kind) = rw (eqb_is b 45 hv) at is in absurd cc
    one false ht false hu false hv true hw = rw (eqb_is b 61 hw) (some_arrow kinds.Arrow rest)
    one false ht false hu false hv false hw = record { kind = kind; length = 1; is = front_single b rest e d ht hu hv hw ∙ ap single_front is }

token_double : (b c : ℕ) (rest l : List ℕ) (kind : TokenKind) → double (b ∷ c ∷ l) ≡ Some kind → SomeToken (front_from b (c ∷ rest))
token_double b c rest l kind is = elim (double_is (b ∷ c ∷ l) kind is) [
  | inl d ↦ let f = d.0 in let first : b ≡ 45 = cc in let second : c ≡ 62 = cc in rw (first, second) (record { kind = kinds.ThinArrow; length = 2; is = refl })
  | inr d ↦ let f = d.0 in let first : b ≡ 61 = cc in let second : c ≡ 62 = cc in rw (first, second) (record { kind = kinds.Arrow; length = 2; is = refl })
]

token_mark : (b : ℕ) (rest : List ℕ) (kind : TokenKind) (n : ℕ) → n ≤ length (b ∷ rest) → kind_of (take n (b ∷ rest)) ≡ Some kind → is_word_start b ≡ false → is_digit b ≡ false → SomeToken (front_from b rest)
token_mark b rest kind zero le is e d = absurd cc
token_mark b rest kind (suc zero) le is e d = token_single b rest kind (sym (no_word b [] e d) ∙ is) e d
token_mark b [] kind (suc (suc n)) le is e d = absurd (omega (arith, le))
token_mark b (c ∷ rest) kind (suc (suc n)) le is e d = token_double b c rest (take n rest) kind (sym (no_word b (c ∷ take n rest) e d) ∙ is)

some_token : (text : List ℕ) (kind : TokenKind) (n : ℕ) → IsToken kind n text → SomeToken (front_of text)
some_token [] kind zero t = let clash : ◌≡◌ {A = Option TokenKind} None (Some kind) = t.spelled in absurd cc
some_token [] kind (suc n) t = absurd (omega (arith, t.within))
some_token (b ∷ rest) kind n t = one (is_word_start b) refl (is_digit b) refl
  where
    one : (s : Bool) → is_word_start b ≡ s → (d : Bool) → is_digit b ≡ d → SomeToken (front_from b rest)
    one true e d h = token_word b rest kind n t e
    one false e true h = token_number b rest kind n t h
    one false e false h = token_mark b rest kind n t.within t.spelled e h

same_token : (text : List ℕ) (k l : TokenKind) (n m : ℕ) → IsToken k n text → IsToken l m text → fronts.Token l m ≡ fronts.Token k n
same_token text k l n m a b =
    let up : n < m → ⊥ = λ lt. (let clash = sym (a.longest m lt b.within) ∙ b.spelled in absurd cc) in
    let down : m < n → ⊥ = λ lt. (let clash = sym (b.longest n lt a.within) ∙ a.spelled in absurd cc) in
    let same : n ≡ m = omega (arith, up, down) in
    let kind = sym (subst (λ (i : ℕ). kind_of (take i text) ≡ Some k) same a.spelled) ∙ b.spelled in
    let one : k ≡ l = cc in
    rw (same, one) refl

-- the lexer sees the piece that begins the text
pub is_seen : (text : List ℕ) (piece : Piece) (n : ℕ) → Begins piece n text → front_of text ≡ as_front piece n
is_seen text blank n (b, rest, is, e, one) = rw (is, one, blank_no_start b e, blank_no_digit b e, e) refl
is_seen text remark n (rest, is, length) = rw (is, length) refl
is_seen text comment n (rest, is, k, closed, length) = rw (is, length, closed) refl
is_seen text (token kind) n t =
    let seen = some_token text kind n t in
    let other = subst (Sees text) seen.is (sees text) in
    seen.is ∙ same_token text kind seen.kind n seen.length t other

-- the lexer sees a comment that nothing closes
pub unclosed_is_seen : (text : List ℕ) → IsUnclosed text → front_of text ≡ fronts.Unclosed
unclosed_is_seen text (rest, is, none) = rw (is, none) refl

-- where the lexer sees nothing, no piece begins the text
pub nothing_begins : (text : List ℕ) → front_of text ≡ fronts.Bad → BeginsNone text
nothing_begins text bad blank n b = let e = sym bad ∙ is_seen text blank n b in absurd cc
nothing_begins text bad remark n b = let e = sym bad ∙ is_seen text remark n b in absurd cc
nothing_begins text bad comment n b = let e = sym bad ∙ is_seen text comment n b in absurd cc
nothing_begins text bad (token kind) n b = let e = sym bad ∙ is_seen text (token kind) n b in absurd cc

-- nor does a comment that nothing closes
pub nothing_unclosed : (text : List ℕ) → front_of text ≡ fronts.Bad → IsUnclosed text → ⊥
nothing_unclosed text bad u = let e = sym bad ∙ unclosed_is_seen text u in absurd cc

-- no piece is a comment that nothing closes
pub unclosed_is_no_piece : (text : List ℕ) → IsUnclosed text → BeginsNone text
unclosed_is_no_piece text u blank n b = let e = sym (unclosed_is_seen text u) ∙ is_seen text blank n b in absurd cc
unclosed_is_no_piece text u remark n b = let e = sym (unclosed_is_seen text u) ∙ is_seen text remark n b in absurd cc
unclosed_is_no_piece text u comment n b = let e = sym (unclosed_is_seen text u) ∙ is_seen text comment n b in absurd cc
unclosed_is_no_piece text u (token kind) n b = let e = sym (unclosed_is_seen text u) ∙ is_seen text (token kind) n b in absurd cc
