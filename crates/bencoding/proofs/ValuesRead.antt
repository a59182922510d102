-- What the readers of numbers, strings, lists and dictionaries may answer.
use Rattle.std.proofs.Common.{◌≡◌, ℕ, zero, suc, ◌+◌, ◌-◌, ◌^◌, ◌<◌, ◌≤◌, Bool, true, false, ℤ, pos, negsuc, FitsSigned, List, [], ◌∷◌, ◌++◌, length, take, drop, get_or, Option, Some, None, Err, All, refl, sym, ap, ◌∙◌, arith, subst, append_assoc, append-nil, take-add, length-drop}
use Rattle.std.specs.Int.{w64}
use Rattle.std.specs.Fmt.{decimal, signed_decimal}
use Rattle.std.proofs.lemmas.Int.{ints}
use Rattle.std.proofs.lemmas.List.{length-append, take_more, take_rest}
use Rattle.flux_values.specs.Spellings.{with_sign}
use Rattle.bencoding.specs.declared.values.Field.{Field}
use Rattle.bencoding.specs.declared.values.Ben.{Ben}
use Rattle.bencoding.specs.declared.values.BenFault.{BenFault}
use Rattle.bencoding.specs.declared.values.BenFault.TheVariants as faults
use Rattle.bencoding.specs.Trees.{Tree, number, string, items, dictionary, Trees, no_items, item, Fields, no_fields, field, spelled_string, spelling, spelled_items, spelled_fields, IsKey, IsTree, AreItems, AreFields}
use Rattle.bencoding.specs.Views.{tree_of}
use Rattle.bencoding.specs.steps.Places.{CanGrow, Follows, IsStuck}
use Rattle.bencoding.specs.steps.Numbers.{IsEnded, AreEnded}
use Rattle.bencoding.specs.steps.Keys.{AreKeyBytes, IsSpelledKey, BeginsKey}
use Rattle.bencoding.specs.steps.Printed.{items_view, fields_view}
use Rattle.bencoding.specs.steps.Values.{IsHead, IsDigitHead, IsNoHead, mark, IsMarked, limit_of, low_of, IsSpelled, StandsFirst, IsSpelledField, FieldFirst, IsValueRead, IsFieldRead}
use Rattle.bencoding.proofs.DigitsRead.{head_is, follows_first, numeral_of}
use Rattle.bencoding.proofs.Lifting.{Cut, lift, widen}
use Rattle.bencoding.proofs.Prefixes.{strings_same, tree_same, tree_first, not_end, key_not_end, ended_laid, IsDigitByte, decimal_first}
use Rattle.bencoding.proofs.StringsRead.{key_most}

-- ---- faults of what is left

pub value_left : (depth : ℕ) (bytes : List ℕ) (at more : ℕ) (fault : BenFault) → fault ≡ faults.BadBen more
    → IsValueRead depth (take (length bytes - at) (drop at bytes)) (Err fault)
    → IsStuck (IsSpelled depth) (drop at bytes) more
value_left depth bytes at more fault is read =
    let found : IsStuck (IsSpelled depth) (take (length bytes - at) (drop at bytes)) more =
    subst (λ f. IsValueRead depth (take (length bytes - at) (drop at bytes)) (Err f)) is read in
    rw take_rest at found

pub field_left : (depth : ℕ) (before : Option (List ℕ)) (bytes : List ℕ) (at more : ℕ) (fault : BenFault)
    → fault ≡ faults.BadBen more → IsFieldRead depth before (take (length bytes - at) (drop at bytes)) (Err fault)
    → IsStuck (IsSpelledField depth before) (drop at bytes) more
field_left depth before bytes at more fault is read =
    let found : IsStuck (IsSpelledField depth before) (take (length bytes - at) (drop at bytes)) more =
    subst (λ f. IsFieldRead depth before (take (length bytes - at) (drop at bytes)) (Err f)) is read in
    rw take_rest at found

-- ---- which value begins so

record AsNumber (x z : List ℕ) : Type 0 where
  whole : ℤ
  fits : FitsSigned w64 whole
  laid : x ≡ signed_decimal whole ++ 101 ∷ z

as_number : (depth : ℕ) (t : Tree) (x z : List ℕ) → IsTree depth t → 105 ∷ x ≡ spelling t ++ z → AsNumber x z
as_number depth (number w) x z is e =
    record { whole = w; fits = is; laid = ap (drop 1) e ∙ ended_laid (signed_decimal w) z }
as_number depth (string s) x z is e = absurd (let r = tree_first depth (string s) z is in omega (arith, head_is e, r.1))
as_number depth (items us) x z is e = absurd (omega (arith, head_is e))
as_number depth (dictionary gs) x z is e = absurd (omega (arith, head_is e))

record AsItems (depth : ℕ) (x z : List ℕ) : Type 0 where
  all : Trees
  are : AreItems (depth - 1) all
  laid : x ≡ spelled_items all ++ 101 ∷ z

as_items : (depth : ℕ) (t : Tree) (x z : List ℕ) → IsTree depth t → 108 ∷ x ≡ spelling t ++ z → AsItems depth x z
as_items depth (number w) x z is e = absurd (omega (arith, head_is e))
as_items depth (string s) x z is e = absurd (let r = tree_first depth (string s) z is in omega (arith, head_is e, r.1))
as_items depth (items us) x z is e =
    record { all = us; are = is.1; laid = ap (drop 1) e ∙ ended_laid (spelled_items us) z }
as_items depth (dictionary gs) x z is e = absurd (omega (arith, head_is e))

record AsFields (depth : ℕ) (x z : List ℕ) : Type 0 where
  all : Fields
  are : AreFields (depth - 1) None all
  laid : x ≡ spelled_fields all ++ 101 ∷ z

as_fields : (depth : ℕ) (t : Tree) (x z : List ℕ) → IsTree depth t → 100 ∷ x ≡ spelling t ++ z → AsFields depth x z
as_fields depth (number w) x z is e = absurd (omega (arith, head_is e))
as_fields depth (string s) x z is e = absurd (let r = tree_first depth (string s) z is in omega (arith, head_is e, r.1))
as_fields depth (items us) x z is e = absurd (omega (arith, head_is e))
as_fields depth (dictionary gs) x z is e =
    record { all = gs; are = is.1; laid = ap (drop 1) e ∙ ended_laid (spelled_fields gs) z }

spelled_some : (depth : ℕ) (t : Tree) (y z : List ℕ) → IsTree depth t → y ≡ spelling t ++ z → 0 < length y
spelled_some depth (number w) y z is e = omega (arith, ap length e)
spelled_some depth (string s) y z is e =
    let n = numeral_of (length s) (let short = is.1 in omega arith) in
    omega (
      arith,
      n.0.0,
      ap length e,
      length-append (spelled_string s) z,
      length-append (decimal (length s) ++ 58 ∷ [])
          s,
      length-append (decimal (length s)) (58 ∷ []),
    )
spelled_some depth (items us) y z is e = omega (arith, ap length e)
spelled_some depth (dictionary gs) y z is e = omega (arith, ap length e)

-- ---- no value begins so

pub nothing_stuck : (depth : ℕ) (bytes : List ℕ) → IsNoHead bytes depth → IsStuck (IsSpelled depth) bytes 0
nothing_stuck depth bytes none =
    record {
      within = omega arith;
      grows = λ some. absurd (omega arith);
      stops =
          λ y z s is follows e. by is.value y z is.is_tree follows (e ∙ ap (λ l. l ++ z) is.spelled);
    }
  where
    by : (t : Tree) (y z : List ℕ) → IsTree depth t → Follows bytes y → y ≡ spelling t ++ z → ⊥
    by (number w) y z is follows e = let f =
        follows_first bytes 0 y follows (spelled_some depth (number w) y z is e) in none.number (f.0, f.1 ∙ head_is e)
    by (string s) y z is follows e =
        let f = follows_first bytes 0 y follows (spelled_some depth (string s) y z is e) in
        let r = subst IsDigitByte (sym (f.1 ∙ head_is e)) (tree_first depth (string s) z is) in
        none.string (f.0, r.0, r.1)
    by (items us) y z is follows e = let f =
        follows_first bytes 0 y follows (spelled_some depth (items us) y z is e) in
        none.list (f.0, f.1 ∙ head_is e) is.0
    by (dictionary gs) y z is follows e = let f =
        follows_first bytes 0 y follows (spelled_some depth (dictionary gs) y z is e) in
        none.dictionary (f.0, f.1 ∙ head_is e) is.0

-- ---- strings

pub text_stuck : (depth : ℕ) (bytes : List ℕ) (at : ℕ) → IsDigitHead bytes → IsStuck (IsSpelledKey None) bytes at
    → IsStuck (IsSpelled depth) bytes at
text_stuck depth bytes at head stuck = widen (IsSpelledKey None) (IsSpelled depth) bytes at stuck
    (λ s k. record {
      more = [];
      grown =
          record { value = string k.key; is_tree = k.is_key; spelled = append-nil s ∙ k.spelled };
    })
    (λ y z s is follows e. by is.value y z is.is_tree follows (e ∙ ap (λ l. l ++ z) is.spelled))
  where
    digit : (t : Tree) (y z : List ℕ) → IsTree depth t → Follows bytes y → y ≡ spelling t ++ z
        → IsDigitByte (get_or (spelling t ++ z) 0 0)
    digit t y z is follows e = let f = follows_first bytes 0 y follows (spelled_some depth t y z is e) in
        subst IsDigitByte (f.1 ∙ head_is e) (head.1, head.2)

    by : (t : Tree) (y z : List ℕ) → IsTree depth t → Follows bytes y → y ≡ spelling t ++ z → Cut (IsSpelledKey None) y
    by (number w) y z is follows e = absurd (let d = digit (number w) y z is follows e in omega (arith, d.1))
    by (string s) y z is follows e =
        record { part = spelled_string s; left = z; is = record { key = s; is_key = is; spelled = refl }; laid = e }
    by (items us) y z is follows e = absurd (let d = digit (items us) y z is follows e in omega (arith, d.1))
    by (dictionary gs) y z is follows e = absurd (let d = digit (dictionary gs) y z is follows e in omega (arith, d.1))

pub text_read : (depth : ℕ) (bytes text : List ℕ) (n : ℕ) → BeginsKey None bytes text n
    → StandsFirst depth bytes (string text) n
text_read depth bytes text n is =
    record { within = is.within; some = is.some; is_tree = is.is_key; spelled = is.spelled }

-- ---- numbers

zero_tree : (depth : ℕ) → IsTree depth (number (pos 0))
zero_tree depth = omega (arith, ints)

mark_grows : (depth : ℕ) (negative : Bool) → CanGrow (IsSpelled depth) (mark negative)
mark_grows depth false = record {
  more = decimal 0 ++ 101 ∷ [];
  grown =
      record { value = number (pos 0); is_tree = zero_tree depth; spelled = refl };
}
mark_grows depth true = record {
  more = decimal 1 ++ 101 ∷ [];
  grown =
      record { value = number (negsuc 0); is_tree = omega (arith, ints); spelled = refl };
}

fits_of : (negative : Bool) (m : ℕ) → low_of negative ≤ m → m ≤ limit_of negative
    → FitsSigned w64 (with_sign negative m)
fits_of false m low high = omega (arith, ints)
fits_of true zero low high = absurd (omega arith)
fits_of true (suc m) low high = omega (arith, ints)

spelled_of : (negative : Bool) (m : ℕ) → low_of negative ≤ m
    → spelling (number (with_sign negative m)) ≡ mark negative ++ (decimal m ++ 101 ∷ [])
spelled_of false m low = refl
spelled_of true zero low = absurd (omega arith)
spelled_of true (suc m) low = refl

abbrev EndedFor : Bool → List ℕ → Type 0
EndedFor negative = IsEnded (low_of negative) (limit_of negative) 101

int_cut : (negative : Bool) (w : ℤ) (y z : List ℕ) → FitsSigned w64 w
    → (negative ≡ false → 0 < length y → get_or y 0 0 ≡ 45 → ⊥)
    → mark negative ++ y ≡ 105 ∷ (signed_decimal w ++ 101 ∷ z) → Cut (EndedFor negative) y
int_cut true (negsuc n) y z fits other e = record {
  part = decimal (suc n) ++ 101 ∷ [];
  left = z;
  is = record { number = suc n; least = omega arith; most = omega (arith, ints, fits); spelled = refl };
  laid = ap (drop 2) e ∙ sym (append_assoc (decimal (suc n)) (101 ∷ []) z);
}
int_cut true (pos n) y z fits other e = absurd (
    let k = numeral_of n (omega (arith, ints, fits)) in
    let r = decimal_first (decimal n) (101 ∷ z) k.0.0 k.0.1 in
    omega (arith, r.0, ap (λ l. get_or l 1 0) e)
    )
int_cut false (pos n) y z fits other e = record {
  part = decimal n ++ 101 ∷ [];
  left = z;
  is = record { number = n; least = omega arith; most = omega (arith, ints, fits); spelled = refl };
  laid = ap (drop 1) e ∙ sym (append_assoc (decimal n) (101 ∷ []) z);
}
int_cut false (negsuc n) y z fits other e = absurd (other refl (omega (arith, ap length e)) (ap (λ l. get_or l 1 0) e))

pub int_stuck : (depth : ℕ) (bytes : List ℕ) (negative : Bool) (more : ℕ) → IsMarked negative bytes
    → IsStuck (EndedFor negative) (drop (length (mark negative)) bytes) more
    → IsStuck (IsSpelled depth) bytes (length (mark negative) + more)
int_stuck depth bytes negative more marked stuck =
    lift (EndedFor negative) (IsSpelled depth) bytes (length (mark negative)) more marked.within stuck
    (λ some. subst (CanGrow (IsSpelled depth)) (sym marked.front) (mark_grows depth negative)) grow cut
  where
    grow : (s : List ℕ) → EndedFor negative s → CanGrow (IsSpelled depth) (take (length (mark negative)) bytes ++ s)
    grow s e = record {
      more = [];
      grown = record {
        value = number (with_sign negative e.number);
        is_tree = fits_of negative e.number e.least e.most;
        spelled = append-nil (take (length (mark negative)) bytes ++ s) ∙ (λ i. marked.front i ++ e.spelled i)
            ∙ sym (spelled_of negative e.number e.least);
      };
    }

    opens : (b : Bool) → mark b ≡ 105 ∷ drop 1 (mark b)
    opens true = refl
    opens false = refl

    cut : (y z s : List ℕ) → IsSpelled depth s → Follows (drop (length (mark negative)) bytes) y
        → take (length (mark negative)) bytes ++ y ≡ s ++ z → Cut (EndedFor negative) y
    cut y z s is follows e =
        let laid : mark negative ++ y ≡ spelling is.value ++ z = ap (λ l. l ++ y) (sym marked.front) ∙ e
        ∙ ap (λ l. l ++ z) is.spelled in
        let first : 105 ∷ (drop 1 (mark negative) ++ y) ≡ mark negative ++ y =
        ap (λ l. l ++ y) (sym (opens negative)) in
        let w = as_number depth is.value (drop 1 (mark negative) ++ y) z is.is_tree (first ∙ laid) in
        let other : negative ≡ false → 0 < length y → get_or y 0 0 ≡ 45 → ⊥ = λ f some dash.
        let there = follows_first bytes (length (mark negative)) y follows some in
        let one : length (mark negative) ≡ 1 = ap (λ b. length (mark b)) f in
        marked.other f (omega (arith, there.0, one)) (ap (λ n. get_or bytes n 0) (sym one) ∙ there.1 ∙ dash) in
        int_cut negative w.whole y z w.fits other (sym first ∙ ap (λ l. 105 ∷ l) w.laid)

pub int_read : (depth : ℕ) (bytes : List ℕ) (negative : Bool) (m n : ℕ) → IsMarked negative bytes
    → AreEnded (low_of negative) (limit_of negative) 101 (drop (length (mark negative)) bytes) m n
    → StandsFirst depth bytes (number (with_sign negative m)) (length (mark negative) + n)
int_read depth bytes negative m n marked are = record {
  within = omega (arith, marked.within, are.within, length-drop (length (mark negative)) bytes);
  some = omega (arith, opens negative);
  is_tree = fits_of negative m are.least are.most;
  spelled = take-add (length (mark negative)) n bytes ∙ (λ i. marked.front i ++ are.spelled i)
      ∙ sym (spelled_of negative m are.least);
}
  where
    opens : (b : Bool) → 0 < length (mark b)
    opens true = omega arith
    opens false = omega arith

-- ---- lists

abbrev add_item : Trees → Tree → Trees
add_item no_items t = item t no_items
add_item (item u us) t = item u (add_item us t)

items_spelled : (ts : Trees) (t : Tree) → spelled_items (add_item ts t) ≡ spelled_items ts ++ spelling t
items_spelled no_items t = append-nil (spelling t)
items_spelled (item u us) t = ap (λ l. spelling u ++ l) (items_spelled us t)
    ∙ sym (append_assoc (spelling u) (spelled_items us) (spelling t))

items_are : (depth : ℕ) (ts : Trees) (t : Tree) → AreItems depth ts → IsTree depth t → AreItems depth (add_item ts t)
items_are depth no_items t are is = (is, tt)
items_are depth (item u us) t are is = (are.0, items_are depth us t are.1 is)

items_seen : (xs : List Ben) (x : Ben) → items_view (xs ++ x ∷ []) ≡ add_item (items_view xs) (tree_of x)
items_seen [] x = refl
items_seen (y ∷ ys) x = ap (item (tree_of y)) (items_seen ys x)

-- before this place are `l` and the spellings of items
pub record ItemsSoFar (depth : ℕ) (bytes : List ℕ) (at : ℕ) (ts : Trees) : Type 0 where
  pub within : at ≤ length bytes
  pub some : 0 < at
  pub laid : take at bytes ≡ 108 ∷ spelled_items ts
  pub are : AreItems depth ts

one_taken : (bytes : List ℕ) (b : ℕ) → IsHead bytes b → take 1 bytes ≡ b ∷ []
one_taken [] b head = absurd (let some = head.0 in omega arith)
one_taken (c ∷ bytes) b head = ap (λ n. n ∷ []) head.1

pub items_first : (depth : ℕ) (bytes : List ℕ) → IsHead bytes 108 → ItemsSoFar depth bytes 1 no_items
items_first depth bytes head =
    record { within = omega (arith, head.0); some = omega arith; laid = one_taken bytes 108 head; are = tt }

pub items_more : (depth : ℕ) (bytes : List ℕ) (at n : ℕ) (xs : List Ben) (x : Ben)
    → ItemsSoFar depth bytes at (items_view xs) → StandsFirst depth (drop at bytes) (tree_of x) n
    → ItemsSoFar depth bytes (at + n) (items_view (xs ++ x ∷ []))
items_more depth bytes at n xs x far first = subst (ItemsSoFar depth bytes (at + n)) (sym (items_seen xs x)) (record {
  within = omega (arith, far.within, first.within, length-drop at bytes);
  some = omega (arith, far.some);
  laid = take-add at n bytes ∙ (λ i. far.laid i ++ first.spelled i)
      ∙ ap (λ l. 108 ∷ l) (sym (items_spelled (items_view xs) (tree_of x)));
  are = items_are depth (items_view xs) (tree_of x) far.are first.is_tree;
})

closed : (bytes : List ℕ) (at : ℕ) → at < length bytes → get_or bytes at 0 ≡ 101
    → take (at + 1) bytes ≡ take at bytes ++ 101 ∷ []
closed bytes at lt e = take_more bytes at 0 lt ∙ ap (λ n. take at bytes ++ n ∷ []) e

pub items_read : (depth : ℕ) (bytes : List ℕ) (at : ℕ) (ts : Trees) → 0 < depth → ItemsSoFar (depth - 1) bytes at ts
    → at < length bytes → get_or bytes at 0 ≡ 101 → StandsFirst depth bytes (items ts) (at + 1)
items_read depth bytes at ts deep far lt end = record {
  within = omega (arith, lt);
  some = omega arith;
  is_tree = (deep, far.are);
  spelled = closed bytes at lt end ∙ ap (λ l. l ++ 101 ∷ []) far.laid;
}

record ItemsLeft (depth : ℕ) (x z : List ℕ) : Type 0 where
  left : Trees
  are : AreItems depth left
  laid : x ≡ spelled_items left ++ 101 ∷ z

items_past : (depth : ℕ) (ts us : Trees) (x z : List ℕ) → AreItems depth ts → AreItems depth us
    → spelled_items ts ++ x ≡ spelled_items us ++ 101 ∷ z → ItemsLeft depth x z
items_past depth no_items us x z a b e = record { left = us; are = b; laid = e }
items_past depth (item t ts) no_items x z a b e =
    absurd (not_end depth t (spelled_items ts ++ x) z a.0 (sym (append_assoc (spelling t) (spelled_items ts) x) ∙ e))
items_past depth (item t ts) (item u us) x z a b e =
    let first = tree_same depth t u (spelled_items ts ++ x) (spelled_items us ++ 101 ∷ z) a.0 b.0
    (sym (append_assoc (spelling t) (spelled_items ts) x) ∙ e
    ∙ append_assoc (spelling u) (spelled_items us) (101 ∷ z)) in
    items_past depth ts us x z a.1 b.1 first.rest

items_grow : (depth : ℕ) (bytes : List ℕ) (at : ℕ) (ts : Trees) → 0 < depth → ItemsSoFar (depth - 1) bytes at ts
    → CanGrow (IsSpelled depth) (take at bytes)
items_grow depth bytes at ts deep far =
    record {
      more = 101 ∷ [];
      grown =
          record { value = items ts; is_tree = (deep, far.are); spelled = ap (λ l. l ++ 101 ∷ []) far.laid };
    }

items_rest : (depth : ℕ) (bytes : List ℕ) (at : ℕ) (ts : Trees) (y z s : List ℕ) → ItemsSoFar (depth - 1) bytes at ts
    → IsSpelled depth s → take at bytes ++ y ≡ s ++ z → ItemsLeft (depth - 1) y z
items_rest depth bytes at ts y z s far is e =
    let all = as_items depth is.value (spelled_items ts ++ y) z is.is_tree (ap (λ l. l ++ y) (sym far.laid) ∙ e
    ∙ ap (λ l. l ++ z) is.spelled) in
    items_past (depth - 1) ts all.all y z far.are all.are all.laid

nothing_left : (bytes : List ℕ) → drop (length bytes) bytes ≡ []
nothing_left [] = refl
nothing_left (b ∷ bytes) = nothing_left bytes

left_ends : (x z : List ℕ) → [] ≡ x ++ 101 ∷ z → ⊥
left_ends [] z e = cc
left_ends (a ∷ x) z e = cc

pub items_end : (depth : ℕ) (bytes : List ℕ) (at : ℕ) (ts : Trees) → 0 < depth → ItemsSoFar (depth - 1) bytes at ts
    → at ≡ length bytes → IsStuck (IsSpelled depth) bytes at
items_end depth bytes at ts deep far end = record {
  within = far.within;
  grows = λ some. items_grow depth bytes at ts deep far;
  stops = λ y z s is follows e.
      let none : y ≡ [] = subst (λ l. Follows l y) (ap (λ n. drop n bytes) end ∙ nothing_left bytes) follows in
      let rest = items_rest depth bytes at ts y z s far is e in
      left_ends (spelled_items rest.left) z (sym none ∙ rest.laid);
}

pub items_stuck : (depth : ℕ) (bytes : List ℕ) (at more : ℕ) (ts : Trees) → 0 < depth
    → ItemsSoFar (depth - 1) bytes at ts → (get_or bytes at 0 ≡ 101 → ⊥)
    → IsStuck (IsSpelled (depth - 1)) (drop at bytes) more → IsStuck (IsSpelled depth) bytes (at + more)
items_stuck depth bytes at more ts deep far other stuck =
    lift (IsSpelled (depth - 1)) (IsSpelled depth) bytes at more far.within stuck
    (λ some. items_grow depth bytes at ts deep far)
    (λ s is. record {
      more = 101 ∷ [];
      grown = record {
        value = items (add_item ts is.value);
        is_tree = (deep, items_are (depth - 1) ts is.value far.are is.is_tree);
        spelled = ap (λ l. l ++ 101 ∷ []) ((λ i. far.laid i ++ is.spelled i)
            ∙ ap (λ l. 108 ∷ l) (sym (items_spelled ts is.value)));
      };
    })
    (λ y z s is follows e. let rest = items_rest depth bytes at ts y z s far is e in
    by rest.left y z rest.are follows rest.laid)
  where
    by : (left : Trees) (y z : List ℕ) → AreItems (depth - 1) left → Follows (drop at bytes) y
        → y ≡ spelled_items left ++ 101 ∷ z → Cut (IsSpelled (depth - 1)) y
    by no_items y z are follows laid =
        absurd (let there = follows_first bytes at y follows (omega (arith, ap length laid)) in
        other (there.1 ∙ head_is laid))
    by (item u us) y z are follows laid =
        record {
          part = spelling u;
          left = spelled_items us ++ 101 ∷ z;
          is =
              record { value = u; is_tree = are.0; spelled = refl };
          laid = laid
              ∙ append_assoc (spelling u) (spelled_items us) (101 ∷ z);
        }

-- ---- dictionaries

key_small : (before : Option (List ℕ)) (key : List ℕ) → IsKey before key → length key < 2 ^ 64
key_small before key is = let most = key_most before key is in omega (arith, most)

abbrev add_field : Fields → List ℕ → Tree → Fields
add_field no_fields k t = field k t no_fields
add_field (field l u gs) k t = field l u (add_field gs k t)

abbrev last_key : Option (List ℕ) → Fields → Option (List ℕ)
last_key before no_fields = before
last_key before (field k t fs) = last_key (Some k) fs

fields_spelled : (fs : Fields) (k : List ℕ) (t : Tree)
    → spelled_fields (add_field fs k t) ≡ spelled_fields fs ++ (spelled_string k ++ spelling t)
fields_spelled no_fields k t = ap (λ l. spelled_string k ++ l) (append-nil (spelling t))
fields_spelled (field l u gs) k t =
    ap (λ s. spelled_string l ++ (spelling u ++ s)) (fields_spelled gs k t)
    ∙ ap (λ s. spelled_string l ++ s)
    (sym (append_assoc (spelling u) (spelled_fields gs) (spelled_string k ++ spelling t)))
    ∙ sym (append_assoc (spelled_string l) (spelling u ++ spelled_fields gs) (spelled_string k ++ spelling t))

fields_are : (depth : ℕ) (before : Option (List ℕ)) (fs : Fields) (k : List ℕ) (t : Tree) → AreFields depth before fs
    → IsKey (last_key before fs) k → IsTree depth t → AreFields depth before (add_field fs k t)
fields_are depth before no_fields k t are key is = (key, is, tt)
fields_are depth before (field l u gs) k t are key is = (are.0, are.1, fields_are depth (Some l) gs k t are.2 key is)

last_added : (before : Option (List ℕ)) (fs : Fields) (k : List ℕ) (t : Tree)
    → last_key before (add_field fs k t) ≡ Some k
last_added before no_fields k t = refl
last_added before (field l u gs) k t = last_added (Some l) gs k t

fields_seen : (xs : List (Field Ben)) (x : Field Ben)
    → fields_view (xs ++ x ∷ []) ≡ add_field (fields_view xs) x.key (tree_of x.value)
fields_seen [] x = refl
fields_seen (y ∷ ys) x = ap (field y.key (tree_of y.value)) (fields_seen ys x)

-- before this place are `d` and the spellings of keys with values
pub record FieldsSoFar (depth : ℕ) (bytes : List ℕ) (at : ℕ) (fs : Fields) (before : Option (List ℕ)) : Type 0 where
  pub within : at ≤ length bytes
  pub some : 0 < at
  pub laid : take at bytes ≡ 100 ∷ spelled_fields fs
  pub are : AreFields depth None fs
  pub last : last_key None fs ≡ before
  pub bytes_ : AreKeyBytes before

pub fields_first : (depth : ℕ) (bytes : List ℕ) → IsHead bytes 100 → FieldsSoFar depth bytes 1 no_fields None
fields_first depth bytes head =
    record {
      within = omega (arith, head.0);
      some = omega arith;
      laid = one_taken bytes 100 head;
      are = tt;
      last =
          refl;
      bytes_ = tt;
    }

key_bytes : (before : Option (List ℕ)) (key : List ℕ) → IsKey before key → All (λ b. b < 256) key
key_bytes None key is = is.0
key_bytes (Some before) key is = (is.0).0

pub fields_more : (depth : ℕ) (bytes : List ℕ) (at n : ℕ) (xs : List (Field Ben)) (x : Field Ben)
    (before : Option (List ℕ)) → FieldsSoFar depth bytes at (fields_view xs) before
    → FieldFirst depth before (drop at bytes) x.key (tree_of x.value) n
    → FieldsSoFar depth bytes (at + n) (fields_view (xs ++ x ∷ [])) (Some x.key)
fields_more depth bytes at n xs x before far first =
    subst (λ fs. FieldsSoFar depth bytes (at + n) fs (Some x.key)) (sym (fields_seen xs x)) (record {
      within = omega (arith, far.within, first.within, length-drop at bytes);
      some = omega (arith, far.some);
      laid = take-add at n bytes ∙ (λ i. far.laid i ++ first.spelled i)
          ∙ ap (λ l. 100 ∷ l) (sym (fields_spelled (fields_view xs) x.key (tree_of x.value)));
      are = fields_are depth None (fields_view xs) x.key (tree_of x.value) far.are
          (subst (λ o. IsKey o x.key) (sym far.last) first.is_key) first.is_tree;
      last = last_added None (fields_view xs) x.key (tree_of x.value);
      bytes_ = key_bytes before x.key first.is_key;
    })

pub fields_read : (depth : ℕ) (bytes : List ℕ) (at : ℕ) (fs : Fields) (before : Option (List ℕ)) → 0 < depth
    → FieldsSoFar (depth - 1) bytes at fs before → at < length bytes → get_or bytes at 0 ≡ 101
    → StandsFirst depth bytes (dictionary fs) (at + 1)
fields_read depth bytes at fs before deep far lt end = record {
  within = omega (arith, lt);
  some = omega arith;
  is_tree = (deep, far.are);
  spelled = closed bytes at lt end ∙ ap (λ l. l ++ 101 ∷ []) far.laid;
}

record FieldsLeft (depth : ℕ) (before : Option (List ℕ)) (x z : List ℕ) : Type 0 where
  left : Fields
  are : AreFields depth before left
  laid : x ≡ spelled_fields left ++ 101 ∷ z

fields_past : (depth : ℕ) (before : Option (List ℕ)) (fs gs : Fields) (x z : List ℕ) → AreFields depth before fs
    → AreFields depth before gs → spelled_fields fs ++ x ≡ spelled_fields gs ++ 101 ∷ z
    → FieldsLeft depth (last_key before fs) x z
fields_past depth before no_fields gs x z a b e = record { left = gs; are = b; laid = e }
fields_past depth before (field k t fs) no_fields x z a b e =
    absurd (key_not_end before k ((spelling t ++ spelled_fields fs) ++ x) z a.0
    (sym (append_assoc (spelled_string k) (spelling t ++ spelled_fields fs) x) ∙ e))
fields_past depth before (field k t fs) (field l u gs) x z a b e =
    let keys = strings_same k l ((spelling t ++ spelled_fields fs) ++ x) ((spelling u ++ spelled_fields gs) ++ 101 ∷ z)
    (key_small before k a.0) (key_small before l b.0)
    (sym (append_assoc (spelled_string k) (spelling t ++ spelled_fields fs) x) ∙ e
    ∙ append_assoc (spelled_string l) (spelling u ++ spelled_fields gs) (101 ∷ z)) in
    let first = tree_same depth t u (spelled_fields fs ++ x) (spelled_fields gs ++ 101 ∷ z) a.1 b.1
    (sym (append_assoc (spelling t) (spelled_fields fs) x) ∙ keys.rest
    ∙ append_assoc (spelling u) (spelled_fields gs) (101 ∷ z)) in
    fields_past depth (Some k) fs gs x z a.2 (subst (λ o. AreFields depth (Some o) gs) (sym keys.value) b.2) first.rest

fields_grow : (depth : ℕ) (bytes : List ℕ) (at : ℕ) (fs : Fields) (before : Option (List ℕ)) → 0 < depth
    → FieldsSoFar (depth - 1) bytes at fs before → CanGrow (IsSpelled depth) (take at bytes)
fields_grow depth bytes at fs before deep far =
    record {
      more = 101 ∷ [];
      grown =
          record { value = dictionary fs; is_tree = (deep, far.are); spelled = ap (λ l. l ++ 101 ∷ []) far.laid };
    }

fields_rest : (depth : ℕ) (bytes : List ℕ) (at : ℕ) (fs : Fields) (before : Option (List ℕ)) (y z s : List ℕ)
    → FieldsSoFar (depth - 1) bytes at fs before → IsSpelled depth s → take at bytes ++ y ≡ s ++ z
    → FieldsLeft (depth - 1) before y z
fields_rest depth bytes at fs before y z s far is e =
    let all = as_fields depth is.value (spelled_fields fs ++ y) z is.is_tree (ap (λ l. l ++ y) (sym far.laid) ∙ e
    ∙ ap (λ l. l ++ z) is.spelled) in
    subst (λ o. FieldsLeft (depth - 1) o y z) far.last
    (fields_past (depth - 1) None fs all.all y z far.are all.are all.laid)

pub fields_end : (depth : ℕ) (bytes : List ℕ) (at : ℕ) (fs : Fields) (before : Option (List ℕ)) → 0 < depth
    → FieldsSoFar (depth - 1) bytes at fs before → at ≡ length bytes → IsStuck (IsSpelled depth) bytes at
fields_end depth bytes at fs before deep far end = record {
  within = far.within;
  grows = λ some. fields_grow depth bytes at fs before deep far;
  stops = λ y z s is follows e.
      let none : y ≡ [] = subst (λ l. Follows l y) (ap (λ n. drop n bytes) end ∙ nothing_left bytes) follows in
      let rest = fields_rest depth bytes at fs before y z s far is e in
      left_ends (spelled_fields rest.left) z (sym none ∙ rest.laid);
}

pub fields_stuck : (depth : ℕ) (bytes : List ℕ) (at more : ℕ) (fs : Fields) (before : Option (List ℕ)) → 0 < depth
    → FieldsSoFar (depth - 1) bytes at fs before → (get_or bytes at 0 ≡ 101 → ⊥)
    → IsStuck (IsSpelledField (depth - 1) before) (drop at bytes) more → IsStuck (IsSpelled depth) bytes (at + more)
fields_stuck depth bytes at more fs before deep far other stuck =
    lift (IsSpelledField (depth - 1) before) (IsSpelled depth) bytes at more far.within stuck
    (λ some. fields_grow depth bytes at fs before deep far)
    (λ s is. record {
      more = 101 ∷ [];
      grown = record {
        value = dictionary (add_field fs is.key is.value);
        is_tree = (
          deep,
          fields_are (depth - 1) None fs is.key is.value far.are
              (subst (λ o. IsKey o is.key) (sym far.last) is.is_key) is.is_tree,
        );
        spelled = ap (λ l. l ++ 101 ∷ []) ((λ i. far.laid i ++ is.spelled i)
            ∙ ap (λ l. 100 ∷ l) (sym (fields_spelled fs is.key is.value)));
      };
    })
    (λ y z s is follows e. let rest = fields_rest depth bytes at fs before y z s far is e in
    by rest.left y z rest.are follows rest.laid)
  where
    by : (left : Fields) (y z : List ℕ) → AreFields (depth - 1) before left → Follows (drop at bytes) y
        → y ≡ spelled_fields left ++ 101 ∷ z → Cut (IsSpelledField (depth - 1) before) y
    by no_fields y z are follows laid =
        absurd (let there = follows_first bytes at y follows (omega (arith, ap length laid)) in
        other (there.1 ∙ head_is laid))
    by (field k u gs) y z are follows laid = record {
      part = spelled_string k ++ spelling u;
      left = spelled_fields gs ++ 101 ∷ z;
      is = record { key = k; value = u; is_key = are.0; is_tree = are.1; spelled = refl };
      laid = laid ∙ ap (λ l. l ++ 101 ∷ z) (sym (append_assoc (spelled_string k) (spelling u) (spelled_fields gs)))
          ∙ append_assoc (spelled_string k ++ spelling u) (spelled_fields gs) (101 ∷ z);
    }

-- ---- a key with its value

pub field_key_stuck : (depth : ℕ) (before : Option (List ℕ)) (bytes : List ℕ) (at : ℕ)
    → IsStuck (IsSpelledKey before) bytes at → IsStuck (IsSpelledField depth before) bytes at
field_key_stuck depth before bytes at stuck = widen (IsSpelledKey before) (IsSpelledField depth before) bytes at stuck
    (λ s k. record {
      more = spelling (number (pos 0));
      grown =
          record {
            key = k.key;
            value = number (pos 0);
            is_key = k.is_key;
            is_tree = zero_tree depth;
            spelled =
                ap (λ l. l ++ spelling (number (pos 0))) k.spelled;
          };
    })
    (λ y z s f follows e. record {
      part = spelled_string f.key;
      left = spelling f.value ++ z;
      is = record { key = f.key; is_key = f.is_key; spelled = refl };
      laid = e ∙ ap (λ l. l ++ z) f.spelled ∙ append_assoc (spelled_string f.key) (spelling f.value) z;
    })

pub field_value_stuck : (depth : ℕ) (before : Option (List ℕ)) (bytes key : List ℕ) (at more : ℕ)
    → BeginsKey before bytes key at → IsStuck (IsSpelled depth) (drop at bytes) more
    → IsStuck (IsSpelledField depth before) bytes (at + more)
field_value_stuck depth before bytes key at more k stuck =
    lift (IsSpelled depth) (IsSpelledField depth before) bytes at more k.within stuck
    (λ some. record {
      more = spelling (number (pos 0));
      grown =
          record {
            key = key;
            value = number (pos 0);
            is_key = k.is_key;
            is_tree = zero_tree depth;
            spelled =
                ap (λ l. l ++ spelling (number (pos 0))) k.spelled;
          };
    })
    (λ s is. record {
      more = [];
      grown =
          record {
            key = key;
            value = is.value;
            is_key = k.is_key;
            is_tree = is.is_tree;
            spelled =
                append-nil (take at bytes ++ s) ∙ (λ i. k.spelled i ++ is.spelled i);
          };
    })
    (λ y z s f follows e.
    let keys = strings_same key f.key y (spelling f.value ++ z) (key_small before key k.is_key)
    (key_small before f.key f.is_key)
    (ap (λ l. l ++ y) (sym k.spelled) ∙ e ∙ ap (λ l. l ++ z) f.spelled
    ∙ append_assoc (spelled_string f.key) (spelling f.value) z) in
    record {
      part = spelling f.value;
      left = z;
      is =
          record { value = f.value; is_tree = f.is_tree; spelled = refl };
      laid = keys.rest;
    })

pub field_read : (depth : ℕ) (before : Option (List ℕ)) (bytes key : List ℕ) (t : Tree) (at n : ℕ)
    → BeginsKey before bytes key at → StandsFirst depth (drop at bytes) t n
    → FieldFirst depth before bytes key t (at + n)
field_read depth before bytes key t at n k first = record {
  within = omega (arith, k.within, first.within, length-drop at bytes);
  some = omega (arith, k.some);
  is_key = k.is_key;
  is_tree = first.is_tree;
  spelled = take-add at n bytes ∙ (λ i. k.spelled i ++ first.spelled i);
}
