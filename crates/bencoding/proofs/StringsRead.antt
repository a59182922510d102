-- What the reader of strings may answer.
use Rattle.std.proofs.Common.{◌≡◌, ℕ, zero, suc, ◌+◌, ◌<◌, ◌≤◌, List, [], ◌∷◌, ◌++◌, length, take, drop, get_or, Option, Some, None, refl, sym, ap, ◌∙◌, arith, subst, append_assoc, append-nil, length-take-le, take-add, length-drop}
use Rattle.std.specs.Fmt.{decimal}
use Rattle.std.proofs.lemmas.List.{length-append, take_more}
use Rattle.bencoding.specs.Trees.{IsKey, spelled_string}
use Rattle.bencoding.specs.steps.Places.{CanGrow, Follows, IsStuck}
use Rattle.bencoding.specs.steps.Numbers.{IsEnded, AreEnded}
use Rattle.bencoding.specs.steps.Keys.{least, AreKeyBytes, Rises, IsStop, IsLongKey, IsSpelledKey, BeginsKey}
use Rattle.bencoding.proofs.Rising.{bytes_of, run_below, level_first, level_rises, free_rises}
use Rattle.bencoding.proofs.Lifting.{Cut, lift, widen}
use Rattle.bencoding.proofs.Prefixes.{decimals_same, string_laid}

-- a key's length
key_least : (before : Option (List ℕ)) (key : List ℕ) → IsKey before key → least before ≤ length key
key_least None key is = omega arith
key_least (Some before) key is = let below = run_below before key (bytes_of key (is.0).0) is.1 in omega (arith, below)

pub key_most : (before : Option (List ℕ)) (key : List ℕ) → IsKey before key → length key ≤ 65536
key_most None key is = is.1
key_most (Some before) key is = (is.0).1

-- there is a key of each such length
pub any_rises : (before : Option (List ℕ)) (n : ℕ) → AreKeyBytes before → least before ≤ n → n ≤ 65536
    → Rises before [] n
any_rises None n old low high = free_rises [] n tt high (omega arith)
any_rises (Some before) n old low high =
    level_rises before [] n 0 (bytes_of before old) tt high (level_first before [] n (omega (arith, low)))

ended_of : (n : ℕ) (key : List ℕ) → length key ≡ n → (decimal n ++ 58 ∷ []) ++ key ≡ spelled_string key
ended_of n key whole = ap (λ m. (decimal m ++ 58 ∷ []) ++ key) (sym whole)

-- no length goes on
pub length_stuck : (before : Option (List ℕ)) (bytes : List ℕ) (at : ℕ) → AreKeyBytes before
    → IsStuck (IsEnded (least before) 65536 58) bytes at → IsStuck (IsSpelledKey before) bytes at
length_stuck before bytes at old stuck =
    widen (IsEnded (least before) 65536 58) (IsSpelledKey before) bytes at stuck grow cut
  where
    grow : (s : List ℕ) → IsEnded (least before) 65536 58 s → CanGrow (IsSpelledKey before) s
    grow s e =
        let r = any_rises before e.number old e.least e.most in
        record {
          more = r.more;
          grown =
              record {
                key = r.more;
                is_key = r.is_key;
                spelled = ap (λ l. l ++ r.more) e.spelled
                    ∙ ended_of e.number r.more r.whole;
              };
        }

    cut : (y z s : List ℕ) → IsSpelledKey before s → Follows bytes y → y ≡ s ++ z
        → Cut (IsEnded (least before) 65536 58) y
    cut y z s k follows laid = record {
      part = decimal (length k.key) ++ 58 ∷ [];
      left = k.key ++ z;
      is = record {
        number = length k.key;
        least = key_least before k.key k.is_key;
        most =
            key_most before k.key k.is_key;
        spelled = refl;
      };
      laid = laid ∙ ap (λ l. l ++ z) k.spelled ∙ append_assoc (decimal (length k.key) ++ 58 ∷ []) k.key z;
    }

-- after a length
behind_length : (before : Option (List ℕ)) (bytes : List ℕ) (n at more : ℕ) → AreKeyBytes before
    → AreEnded (least before) 65536 58 bytes n at → IsStuck (IsLongKey before n) (drop at bytes) more
    → IsStuck (IsSpelledKey before) bytes (at + more)
behind_length before bytes n at more old are stuck =
    lift (IsLongKey before n) (IsSpelledKey before) bytes at more are.within stuck start grow cut
  where
    start : 0 < at → CanGrow (IsSpelledKey before) (take at bytes)
    start some =
        let r = any_rises before n old are.least are.most in
        record {
          more = r.more;
          grown =
              record {
                key = r.more;
                is_key = r.is_key;
                spelled = ap (λ l. l ++ r.more) are.spelled
                    ∙ ended_of n r.more r.whole;
              };
        }

    grow : (s : List ℕ) → IsLongKey before n s → CanGrow (IsSpelledKey before) (take at bytes ++ s)
    grow s k = record {
      more = [];
      grown =
          record {
            key = s;
            is_key = k.is_key;
            spelled = append-nil (take at bytes ++ s) ∙ ap (λ l. l ++ s) are.spelled
                ∙ ended_of n s k.whole;
          };
    }

    cut : (y z s : List ℕ) → IsSpelledKey before s → Follows (drop at bytes) y → take at bytes ++ y ≡ s ++ z
        → Cut (IsLongKey before n) y
    cut y z s k follows laid =
        let numbers = decimals_same n (length k.key) 58 y (k.key ++ z) (omega (arith, are.most))
        (omega (arith, key_most before k.key k.is_key)) refl
        (sym (ap (λ l. l ++ y) are.spelled ∙ append_assoc (decimal n) (58 ∷ []) y) ∙ laid
        ∙ ap (λ l. l ++ z) k.spelled ∙ string_laid k.key z) in
        record {
          part = k.key;
          left = z;
          is = record { is_key = k.is_key; whole = sym numbers.value };
          laid =
              numbers.rest;
        }

front_taken : (j n : ℕ) (xs : List ℕ) → j ≤ n → take j (take n xs) ≡ take j xs
front_taken zero n xs le = refl
front_taken (suc j) zero xs le = absurd (omega arith)
front_taken (suc j) (suc n) [] le = refl
front_taken (suc j) (suc n) (x ∷ xs) le = ap (λ l. x ∷ l) (front_taken j n xs (omega arith))

split_at : (j : ℕ) (s z x y : List ℕ) → j ≤ length s → length x ≡ j → x ++ y ≡ s ++ z → s ≡ x ++ drop j s
split_at zero s z [] y le long e = refl
split_at zero s z (a ∷ x) y le long e = absurd (omega (arith, long))
split_at (suc j) [] z x y le long e = absurd (omega arith)
split_at (suc j) (b ∷ s) z [] y le long e = absurd (omega (arith, long))
split_at (suc j) (b ∷ s) z (a ∷ x) y le long e =
    let on = split_at j s z x y (omega arith) (omega (arith, long)) (ap (drop 1) e) in
    let first : b ≡ a = sym (ap (λ l. get_or l 0 0) e) in
    cc (first, on)

-- the bytes of the key stop
pub key_stuck : (before : Option (List ℕ)) (bytes : List ℕ) (n at long stop : ℕ) → AreKeyBytes before
    → AreEnded (least before) 65536 58 bytes n at → long ≤ n → IsStop before (take long (drop at bytes)) n stop
    → IsStuck (IsSpelledKey before) bytes (at + stop)
key_stuck before bytes n at long stop old are fits is =
    behind_length before bytes n at stop old are
    (record { within = omega (arith, inside.1); grows = grows; stops = stops })
  where
    inside : (stop < long) × (stop < length (drop at bytes))
    inside = let lt = is.within in shorter long (drop at bytes) lt
      where
        shorter : (m : ℕ) (xs : List ℕ) → stop < length (take m xs) → (stop < m) × (stop < length xs)
        shorter m xs lt = let le = taken m xs in (omega (arith, lt, le.0), omega (arith, lt, le.1))
          where
            taken : (k : ℕ) (ys : List ℕ) → (length (take k ys) ≤ k) × (length (take k ys) ≤ length ys)
            taken zero ys = (omega arith, omega arith)
            taken (suc k) [] = (omega arith, omega arith)
            taken (suc k) (y ∷ ys) = let on = taken k ys in (omega (arith, on.0), omega (arith, on.1))

    grows : 0 < stop → CanGrow (IsLongKey before n) (take stop (drop at bytes))
    grows some =
        let r = is.rises in
        let same : take stop (take long (drop at bytes)) ≡ take stop (drop at bytes) =
        front_taken stop long (drop at bytes) (omega (arith, inside.0)) in
        record {
          more = r.more;
          grown =
              subst (λ l. IsLongKey before n (l ++ r.more)) same (record { is_key = r.is_key; whole = r.whole });
        }

    stops : (y z s : List ℕ) → IsLongKey before n s → Follows (drop stop (drop at bytes)) y
        → take stop (drop at bytes) ++ y ≡ s ++ z → ⊥
    stops y z s k follows laid =
        let here : y ≡ get_or (drop at bytes) stop 0 ∷ drop 1 y = first (drop at bytes) stop inside.1 follows in
        let p = take (stop + 1) (drop at bytes) in
        let joined : p ++ drop 1 y ≡ s ++ z = ap (λ l. l ++ drop 1 y) (take_more (drop at bytes) stop 0 inside.1)
        ∙ append_assoc (take stop (drop at bytes)) (get_or (drop at bytes) stop 0 ∷ []) (drop 1 y)
        ∙ ap (λ l. take stop (drop at bytes) ++ l) (sym here) ∙ laid in
        let cut = split_at (stop + 1) s z p (drop 1 y) (omega (arith, k.whole, inside.0, fits))
        (length-take-le (stop + 1) (drop at bytes) (omega (arith, inside.1))) joined in
        let same : take (stop + 1) (take long (drop at bytes)) ≡ p =
        front_taken (stop + 1) long (drop at bytes) (omega (arith, inside.0)) in
        is.stops s (drop (stop + 1) s) k.is_key k.whole (cut ∙ ap (λ l. l ++ drop (stop + 1) s) (sym same))
      where
        first : (xs : List ℕ) (m : ℕ) → m < length xs → Follows (drop m xs) y → y ≡ get_or xs m 0 ∷ drop 1 y
        first [] m lt f = absurd (omega arith)
        first (x ∷ xs) zero lt f = f
        first (x ∷ xs) (suc m) lt f = first xs m (omega arith) f

pub all_taken : (xs : List ℕ) (n : ℕ) → length xs ≤ n → take n xs ≡ xs
all_taken [] zero le = refl
all_taken [] (suc n) le = refl
all_taken (x ∷ xs) zero le = absurd (omega arith)
all_taken (x ∷ xs) (suc n) le = ap (λ l. x ∷ l) (all_taken xs n (omega arith))

none_left : (xs : List ℕ) (n : ℕ) → length xs ≤ n → drop n xs ≡ []
none_left [] zero le = refl
none_left [] (suc n) le = refl
none_left (x ∷ xs) zero le = absurd (omega arith)
none_left (x ∷ xs) (suc n) le = none_left xs n (omega arith)

-- the bytes end within the key
pub short_stuck : (before : Option (List ℕ)) (bytes : List ℕ) (n at : ℕ) → AreKeyBytes before
    → AreEnded (least before) 65536 58 bytes n at → Rises before (drop at bytes) n → length (drop at bytes) < n
    → IsStuck (IsSpelledKey before) bytes (length bytes)
short_stuck before bytes n at old are rises short =
    subst (IsStuck (IsSpelledKey before) bytes) (omega (arith, length-drop at bytes, are.within))
    (behind_length before bytes n at (length (drop at bytes)) old are (record {
      within = omega arith;
      grows = λ _. record {
        more = rises.more;
        grown =
            subst (λ l. IsLongKey before n (l ++ rises.more))
            (sym (all_taken (drop at bytes) (length (drop at bytes)) (omega arith)))
            (record { is_key = rises.is_key; whole = rises.whole });
      };
      stops = λ y z s k follows laid.
          let none : y ≡ [] = subst (λ l. Follows l y)
          (none_left (drop at bytes) (length (drop at bytes)) (omega arith)) follows in
          let same : drop at bytes ≡ s ++ z = sym (append-nil (drop at bytes))
          ∙ ap (λ l. drop at bytes ++ l) (sym none)
          ∙ ap (λ l. l ++ y) (sym (all_taken (drop at bytes) (length (drop at bytes)) (omega arith))) ∙ laid in
          omega (arith, ap length same, length-append s z, k.whole, short);
    }))

-- a whole key
pub key_read : (before : Option (List ℕ)) (bytes front : List ℕ) (n at : ℕ)
    → AreEnded (least before) 65536 58 bytes n at → Rises before front n → front ≡ take n (drop at bytes)
    → n ≤ length front → BeginsKey before bytes front (at + n)
key_read before bytes front n at are rises is whole =
    let long : length rises.more ≡ 0 = omega (arith, rises.whole, length-append front rises.more, whole) in
    let none : rises.more ≡ [] = empty rises.more long in
    let same : length front ≡ n = omega (arith, rises.whole, length-append front rises.more, long) in
    record {
      within = omega (arith, are.within, length-drop at bytes, bounded n (drop at bytes), ap length is, same);
      is_key = subst (λ l. IsKey before l) (ap (λ l. front ++ l) none ∙ append-nil front) rises.is_key;
      spelled = take-add at n bytes ∙ (λ i. are.spelled i ++ (sym is) i) ∙ ended_of n front same;
      some =
          omega (arith, ap length are.spelled, length-append (decimal n) (58 ∷ []), length-take-le at bytes are.within);
    }
  where
    empty : (xs : List ℕ) → length xs ≡ 0 → xs ≡ []
    empty [] e = refl
    empty (x ∷ xs) e = absurd (omega (arith, e))

    bounded : (k : ℕ) (ys : List ℕ) → length (take k ys) ≤ length ys
    bounded zero ys = omega arith
    bounded (suc k) [] = omega arith
    bounded (suc k) (y ∷ ys) = let on = bounded k ys in omega (arith, on)
