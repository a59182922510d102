-- No spelling begins another: what begins alike is alike.
use Rattle.std.proofs.Common.{◌≡◌, ℕ, suc, ◌-◌, ◌^◌, ◌<◌, ◌≤◌, false, ℤ, pos, negsuc, List, [], ◌∷◌, ◌++◌, length, drop, get_or, Option, Some, None, FitsSigned, refl, sym, ap, ◌∙◌, arith, subst, append_assoc, append-nil}
use Rattle.std.specs.Int.{w64}
use Rattle.std.specs.Fmt.{decimal, signed_decimal}
use Rattle.std.specs.Char.{is_ascii_digit}
use Rattle.std.specs.Str.Parse.{AllDigits}
use Rattle.std.proofs.lemmas.Int.{ints}
use Rattle.std.proofs.lemmas.Fmt.{decimal_injective}
use Rattle.std.proofs.lemmas.Str.Parse.{digit_from_value}
use Rattle.bencoding.specs.Trees.{Tree, number, string, items, dictionary, Trees, no_items, item, Fields, no_fields, field, spelled_string, spelling, spelled_items, spelled_fields, IsKey, IsTree, AreItems, AreFields}
use Rattle.bencoding.proofs.DigitsRead.{GoOn, go_on, no_digit, head_is, numeral_of}

-- ---- numbers and strings

pub record Same {A : Type 0} (a b : A) (x y : List ℕ) : Type 0 where
  pub value : a ≡ b
  pub rest : x ≡ y

pub decimals_same : (m n end : ℕ) (x y : List ℕ) → m < 2 ^ 64 → n < 2 ^ 64 → is_ascii_digit end ≡ false
    → decimal m ++ end ∷ x ≡ decimal n ++ end ∷ y → Same m n x y
decimals_same m n end x y small less none e = by on.more on.whole on.left
  where
    on : GoOn (decimal n) (decimal m) (end ∷ x) y end
    on = go_on (decimal m) (decimal n) (end ∷ x) y end (numeral_of m small).0.1 none e

    behind : (xs ys : List ℕ) → AllDigits 10 (xs ++ ys) → AllDigits 10 ys
    behind [] ys all = all
    behind (d ∷ xs) ys all = behind xs ys all.1

    by : (more : List ℕ) → decimal n ≡ decimal m ++ more → end ∷ x ≡ more ++ end ∷ y → Same m n x y
    by [] whole left = record {
      value = decimal_injective m n small less (sym (whole ∙ append-nil (decimal m)));
      rest =
          ap (drop 1) left;
    }
    by (d ∷ more) whole left = absurd
        (no_digit d (behind (decimal m) (d ∷ more) (subst (AllDigits 10) whole (numeral_of n less).0.1)).0
        (subst (λ c. is_ascii_digit c ≡ false) (head_is left) none))

cut_same : (xs ys x y : List ℕ) → length xs ≡ length ys → xs ++ x ≡ ys ++ y → Same xs ys x y
cut_same [] [] x y long e = record { value = refl; rest = e }
cut_same [] (b ∷ ys) x y long e = absurd (omega (arith, long))
cut_same (a ∷ xs) [] x y long e = absurd (omega (arith, long))
cut_same (a ∷ xs) (b ∷ ys) x y long e =
    let on = cut_same xs ys x y (omega (arith, long)) (ap (drop 1) e) in
    let first : a ≡ b = head_is e in
    record { value = cc (first, on.value); rest = on.rest }

pub string_laid : (k x : List ℕ) → spelled_string k ++ x ≡ decimal (length k) ++ 58 ∷ (k ++ x)
string_laid k x = append_assoc (decimal (length k) ++ 58 ∷ []) k x
    ∙ append_assoc (decimal (length k)) (58 ∷ []) (k ++ x)

pub strings_same : (k l x y : List ℕ) → length k < 2 ^ 64 → length l < 2 ^ 64
    → spelled_string k ++ x ≡ spelled_string l ++ y → Same k l x y
strings_same k l x y small less e =
    let numbers = decimals_same (length k) (length l) 58 (k ++ x) (l ++ y) small less refl (sym (string_laid k x) ∙ e
    ∙ string_laid l y) in
    cut_same k l x y numbers.value numbers.rest

pub record FirstIs (s : List ℕ) (P : ℕ → Type 0) : Type 0 where
  pub some : 0 < length s
  pub first : P (get_or s 0 0)

abbrev pub IsDigitByte : ℕ → Type 0
IsDigitByte b = (48 ≤ b) × (b < 58)

pub decimal_first : (ds x : List ℕ) → 0 < length ds → AllDigits 10 ds → IsDigitByte (get_or (ds ++ x) 0 0)
decimal_first [] x some all = absurd (omega arith)
decimal_first (d ∷ ds) x some all = let r = digit_from_value d all.0 in (omega (arith, r), omega (arith, r))

pub string_first : (k x : List ℕ) → length k < 2 ^ 64 → IsDigitByte (get_or (spelled_string k ++ x) 0 0)
string_first k x small = let n = numeral_of (length k) small in
    subst (λ l. IsDigitByte (get_or l 0 0)) (sym (string_laid k x))
    (decimal_first (decimal (length k)) (58 ∷ (k ++ x)) n.0.0 n.0.1)

signed_same : (z w : ℤ) (x y : List ℕ) → FitsSigned w64 z → FitsSigned w64 w
    → signed_decimal z ++ 101 ∷ x ≡ signed_decimal w ++ 101 ∷ y → Same z w x y
signed_same (pos m) (pos n) x y a b e =
    let s = decimals_same m n 101 x y (omega (arith, ints, a)) (omega (arith, ints, b)) refl e in
    record { value = ap pos s.value; rest = s.rest }
signed_same (negsuc m) (negsuc n) x y a b e =
    let s = decimals_same (suc m) (suc n) 101 x y (omega (arith, ints, a)) (omega (arith, ints, b)) refl
    (ap (drop 1) e) in
    record { value = ap negsuc (omega (arith, s.value)); rest = s.rest }
signed_same (pos m) (negsuc n) x y a b e =
    let k = numeral_of m (omega (arith, ints, a)) in
    absurd (let r = decimal_first (decimal m) (101 ∷ x) k.0.0 k.0.1 in omega (arith, r.0, head_is e))
signed_same (negsuc m) (pos n) x y a b e =
    let k = numeral_of n (omega (arith, ints, b)) in
    absurd (let r = decimal_first (decimal n) (101 ∷ y) k.0.0 k.0.1 in omega (arith, r.0, head_is e))

pub ended_laid : (s x : List ℕ) → (s ++ 101 ∷ []) ++ x ≡ s ++ 101 ∷ x
ended_laid s x = append_assoc s (101 ∷ []) x

-- ---- values

abbrev pub IsFirst : Tree → ℕ → Type 0
IsFirst (number z) b = b ≡ 105
IsFirst (string s) b = IsDigitByte b
IsFirst (items ts) b = b ≡ 108
IsFirst (dictionary fs) b = b ≡ 100

pub tree_first : (depth : ℕ) (t : Tree) (x : List ℕ) → IsTree depth t → IsFirst t (get_or (spelling t ++ x) 0 0)
tree_first depth (number z) x is = refl
tree_first depth (string s) x is = string_first s x (let short = is.1 in omega arith)
tree_first depth (items ts) x is = refl
tree_first depth (dictionary fs) x is = refl

pub not_end : (depth : ℕ) (t : Tree) (x y : List ℕ) → IsTree depth t → spelling t ++ x ≡ 101 ∷ y → ⊥
not_end depth (number z) x y is e = omega (arith, head_is e)
not_end depth (string s) x y is e = let r = tree_first depth (string s) x is in omega (arith, head_is e, r.1)
not_end depth (items ts) x y is e = omega (arith, head_is e)
not_end depth (dictionary fs) x y is e = omega (arith, head_is e)

key_short : (before : Option (List ℕ)) (key : List ℕ) → IsKey before key → length key < 2 ^ 64
key_short None key is = let short = is.1 in omega arith
key_short (Some before) key is = let short = (is.0).1 in omega arith

pub key_not_end : (before : Option (List ℕ)) (key x y : List ℕ) → IsKey before key → spelled_string key ++ x ≡ 101 ∷ y
    → ⊥
key_not_end before key x y is e = let r = string_first key x (key_short before key is) in omega (arith, head_is e, r.1)

apart : (depth : ℕ) (t u : Tree) (x y : List ℕ) → IsTree depth t → IsTree depth u
    → ((b : ℕ) → IsFirst t b → IsFirst u b → ⊥) → spelling t ++ x ≡ spelling u ++ y → ⊥
apart depth t u x y a b never e =
    never (get_or (spelling u ++ y) 0 0) (subst (IsFirst t) (head_is e) (tree_first depth t x a))
    (tree_first depth u y b)

mutual
  pub tree_same : (depth : ℕ) (t u : Tree) (x y : List ℕ) → IsTree depth t → IsTree depth u
      → spelling t ++ x ≡ spelling u ++ y → Same t u x y
  tree_same depth (number z) (number w) x y a b e =
      let s = signed_same z w x y a b (sym (ended_laid (signed_decimal z) x) ∙ ap (drop 1) e
      ∙ ended_laid (signed_decimal w) y) in
      record { value = ap number s.value; rest = s.rest }
  tree_same depth (string k) (string l) x y a b e =
      let s = strings_same k l x y (let short = a.1 in omega arith) (let short = b.1 in omega arith) e in
      record { value = ap string s.value; rest = s.rest }
  tree_same depth (items ts) (items us) x y a b e =
      let s = items_same (depth - 1) ts us x y a.1 b.1 (sym (ended_laid (spelled_items ts) x) ∙ ap (drop 1) e
      ∙ ended_laid (spelled_items us) y) in
      record { value = ap items s.value; rest = s.rest }
  tree_same depth (dictionary fs) (dictionary gs) x y a b e =
      let s = fields_same (depth - 1) None fs gs x y a.1 b.1 (sym (ended_laid (spelled_fields fs) x) ∙ ap (drop 1) e
      ∙ ended_laid (spelled_fields gs) y) in
      record { value = ap dictionary s.value; rest = s.rest }
  tree_same depth (number z) (string l) x y a b e =
      absurd (apart depth (number z) (string l) x y a b (λ c p q. omega (arith, p, q.1)) e)
  tree_same depth (number z) (items us) x y a b e = absurd (omega (arith, head_is e))
  tree_same depth (number z) (dictionary gs) x y a b e = absurd (omega (arith, head_is e))
  tree_same depth (string k) (number w) x y a b e =
      absurd (apart depth (string k) (number w) x y a b (λ c p q. omega (arith, q, p.1)) e)
  tree_same depth (string k) (items us) x y a b e =
      absurd (apart depth (string k) (items us) x y a b (λ c p q. omega (arith, q, p.1)) e)
  tree_same depth (string k) (dictionary gs) x y a b e =
      absurd (apart depth (string k) (dictionary gs) x y a b (λ c p q. omega (arith, q, p.1)) e)
  tree_same depth (items ts) (number w) x y a b e = absurd (omega (arith, head_is e))
  tree_same depth (items ts) (string l) x y a b e =
      absurd (apart depth (items ts) (string l) x y a b (λ c p q. omega (arith, p, q.1)) e)
  tree_same depth (items ts) (dictionary gs) x y a b e = absurd (omega (arith, head_is e))
  tree_same depth (dictionary fs) (number w) x y a b e = absurd (omega (arith, head_is e))
  tree_same depth (dictionary fs) (string l) x y a b e =
      absurd (apart depth (dictionary fs) (string l) x y a b (λ c p q. omega (arith, p, q.1)) e)
  tree_same depth (dictionary fs) (items us) x y a b e = absurd (omega (arith, head_is e))

  pub items_same : (depth : ℕ) (ts us : Trees) (x y : List ℕ) → AreItems depth ts → AreItems depth us
      → spelled_items ts ++ 101 ∷ x ≡ spelled_items us ++ 101 ∷ y → Same ts us x y
  items_same depth no_items no_items x y a b e = record { value = refl; rest = ap (drop 1) e }
  items_same depth no_items (item u us) x y a b e =
      absurd (not_end depth u (spelled_items us ++ 101 ∷ y) x b.0
      (sym (append_assoc (spelling u) (spelled_items us) (101 ∷ y)) ∙ sym e))
  items_same depth (item t ts) no_items x y a b e =
      absurd (not_end depth t (spelled_items ts ++ 101 ∷ x) y a.0
      (sym (append_assoc (spelling t) (spelled_items ts) (101 ∷ x)) ∙ e))
  items_same depth (item t ts) (item u us) x y a b e =
      let first = tree_same depth t u (spelled_items ts ++ 101 ∷ x) (spelled_items us ++ 101 ∷ y) a.0 b.0
      (sym (append_assoc (spelling t) (spelled_items ts) (101 ∷ x)) ∙ e
      ∙ append_assoc (spelling u) (spelled_items us) (101 ∷ y)) in
      let on = items_same depth ts us x y a.1 b.1 first.rest in
      record { value = cc (first.value, on.value); rest = on.rest }

  pub fields_same : (depth : ℕ) (before : Option (List ℕ)) (fs gs : Fields) (x y : List ℕ) → AreFields depth before fs
      → AreFields depth before gs → spelled_fields fs ++ 101 ∷ x ≡ spelled_fields gs ++ 101 ∷ y → Same fs gs x y
  fields_same depth before no_fields no_fields x y a b e = record { value = refl; rest = ap (drop 1) e }
  fields_same depth before no_fields (field l u gs) x y a b e =
      absurd (key_not_end before l ((spelling u ++ spelled_fields gs) ++ 101 ∷ y) x b.0
      (sym (append_assoc (spelled_string l) (spelling u ++ spelled_fields gs) (101 ∷ y)) ∙ sym e))
  fields_same depth before (field k t fs) no_fields x y a b e =
      absurd (key_not_end before k ((spelling t ++ spelled_fields fs) ++ 101 ∷ x) y a.0
      (sym (append_assoc (spelled_string k) (spelling t ++ spelled_fields fs) (101 ∷ x)) ∙ e))
  fields_same depth before (field k t fs) (field l u gs) x y a b e =
      let keys = strings_same k l ((spelling t ++ spelled_fields fs) ++ 101 ∷ x)
      ((spelling u ++ spelled_fields gs) ++ 101 ∷ y) (key_short before k a.0) (key_short before l b.0)
      (sym (append_assoc (spelled_string k) (spelling t ++ spelled_fields fs) (101 ∷ x)) ∙ e
      ∙ append_assoc (spelled_string l) (spelling u ++ spelled_fields gs) (101 ∷ y)) in
      let first = tree_same depth t u (spelled_fields fs ++ 101 ∷ x) (spelled_fields gs ++ 101 ∷ y) a.1 b.1
      (sym (append_assoc (spelling t) (spelled_fields fs) (101 ∷ x)) ∙ keys.rest
      ∙ append_assoc (spelling u) (spelled_fields gs) (101 ∷ y)) in
      let on = fields_same depth (Some k) fs gs x y a.2 (subst (λ l. AreFields depth (Some l) gs) (sym keys.value) b.2)
      first.rest in
      record { value = cc (keys.value, first.value, on.value); rest = on.rest }
