-- Which keys are above another, by their first bytes and their length.
use Rattle.std.proofs.Common.{◌≡◌, ◌⊎◌, inl, inr, ℕ, zero, suc, ◌+◌, ◌-◌, ◌<◌, ◌≤◌, Bool, true, false, eqb, List, [], ◌∷◌, ◌++◌, length, take, drop, get_or, replicate, All, Some, None, refl, sym, ap, ◌∙◌, arith, subst, length-take-le}
use Rattle.std.specs.List.{AllByRecursion}
use Rattle.std.proofs.lemmas.Bool.{cond_both, eqb-true}
use Rattle.std.proofs.lemmas.Bool.Decides.{nat_tests}
use Rattle.std.proofs.lemmas.List.{length-append, take_more}
use Rattle.std.proofs.lemmas.List.Elements.{All-from_recursion, recursion_from_All}
use Rattle.bencoding.specs.Trees.{IsAbove, IsKey}
use Rattle.bencoding.specs.steps.Keys.{run, Rises, IsStop}

abbrev pub AreBytes : List ℕ → Type 0
AreBytes bytes = AllByRecursion (λ (b : ℕ). b < 256) bytes

pub bytes_of : (bytes : List ℕ) → All (λ (b : ℕ). b < 256) bytes → AreBytes bytes
bytes_of bytes all = recursion_from_All (λ (b : ℕ). b < 256) bytes all

-- bytes that are each below 256
pub bytes_from : (xs : List ℕ) → ((k : ℕ) → get_or xs k 0 < 256) → AreBytes xs
bytes_from [] small = tt
bytes_from (x ∷ xs) small = (small 0, bytes_from xs (λ k. small (suc k)))

pub all_of : (bytes : List ℕ) → AreBytes bytes → All (λ (b : ℕ). b < 256) bytes
all_of bytes are = All-from_recursion (λ (b : ℕ). b < 256) bytes are

pub bytes_append : (xs ys : List ℕ) → AreBytes xs → AreBytes ys → AreBytes (xs ++ ys)
bytes_append [] ys a b = b
bytes_append (x ∷ xs) ys a b = (a.0, bytes_append xs ys a.1 b)

pub bytes_take : (n : ℕ) (xs : List ℕ) → AreBytes xs → AreBytes (take n xs)
bytes_take zero xs a = tt
bytes_take (suc n) [] a = tt
bytes_take (suc n) (x ∷ xs) a = (a.0, bytes_take n xs a.1)

pub bytes_drop : (n : ℕ) (xs : List ℕ) → AreBytes xs → AreBytes (drop n xs)
bytes_drop zero xs a = a
bytes_drop (suc n) [] a = tt
bytes_drop (suc n) (x ∷ xs) a = bytes_drop n xs a.1

pub bytes_full : (n : ℕ) → AreBytes (replicate n 255)
bytes_full zero = tt
bytes_full (suc n) = (omega arith, bytes_full n)

pub length_full : (n : ℕ) → length {A = ℕ} (replicate n 255) ≡ n
length_full zero = refl
length_full (suc n) = ap suc (length_full n)

run_step : (b : ℕ) (bytes : List ℕ) (P : ℕ → Type 0) → (b ≡ 255 → P (run bytes + 1)) → ((b ≡ 255 → ⊥) → P 0)
    → P (run (b ∷ bytes))
run_step b bytes P full other =
    cond_both (eqb b 255) (run bytes + 1) 0 P (λ e. full (eqb-true b 255 e))
    (λ e. other (λ is. let f : true ≡ false = ap (λ n. eqb n 255) (sym is) ∙ e in absurd cc))

pub run_full : (b : ℕ) (bytes : List ℕ) → b ≡ 255 → run (b ∷ bytes) ≡ run bytes + 1
run_full b bytes is = run_step b bytes (λ n. n ≡ run bytes + 1) (λ _. refl) (λ other. absurd (other is))

pub run_none : (b : ℕ) (bytes : List ℕ) → (b ≡ 255 → ⊥) → run (b ∷ bytes) ≡ 0
run_none b bytes other = run_step b bytes (λ n. n ≡ 0) (λ is. absurd (other is)) (λ _. refl)

-- a key above another is longer than the bytes 255 at that one's front
pub run_below : (before key : List ℕ) → AreBytes key → IsAbove before key → run before < length key
run_below [] [] all above = absurd above
run_below [] (b ∷ key) all above = omega arith
run_below (a ∷ before) [] all above = absurd above
run_below (a ∷ before) (b ∷ key) all (inl lt) =
    run_step a before (λ n. n < length (b ∷ key)) (λ is. let small = all.0 in
    absurd (omega (arith, is, lt, small))) (λ _. omega arith)
run_below (a ∷ before) (b ∷ key) all (inr same) = let on = run_below before key all.1 same.1 in
    run_step a before (λ n. n < length (b ∷ key)) (λ is. omega (arith, on)) (λ _. omega arith)

-- as many bytes 255 and one more are above
pub run_rises : (before : List ℕ) (n : ℕ) → AreBytes before → run before < n → IsAbove before (replicate n 255)
run_rises [] zero all lt = absurd (omega arith)
run_rises [] (suc n) all lt = tt
run_rises (a ∷ before) zero all lt = absurd (omega arith)
run_rises (a ∷ before) (suc n) all lt =
    by (eqb a 255) refl (λ is. run_rises before n all.1 (omega (arith, run_full a before is, lt)))
  where
    by : (t : Bool) → eqb a 255 ≡ t → (a ≡ 255 → IsAbove before (replicate n 255))
        → IsAbove (a ∷ before) (replicate (suc n) 255)
    by true e on = let is : a ≡ 255 = eqb-true a 255 e in inr (is, on is)
    by false e on = let small = all.0 in inl (grind (arith, nat_tests))

-- ---- keys that begin alike

-- after the same front the rests are compared
pub above_less : (at : ℕ) (before key : List ℕ) → at ≤ length before → at ≤ length key → take at before ≡ take at key
    → IsAbove before key → IsAbove (drop at before) (drop at key)
above_less zero before key le more same above = above
above_less (suc at) [] key le more same above = absurd (omega arith)
above_less (suc at) (a ∷ before) [] le more same above = absurd (omega arith)
above_less (suc at) (a ∷ before) (b ∷ key) le more same (inl lt) =
    absurd (omega (arith, lt, ap (λ l. get_or l 0 0) same))
above_less (suc at) (a ∷ before) (b ∷ key) le more same (inr is) =
    above_less at before key (omega arith) (omega arith) (ap (drop 1) same) is.1

pub above_more : (at : ℕ) (before key : List ℕ) → at ≤ length before → at ≤ length key → take at before ≡ take at key
    → IsAbove (drop at before) (drop at key) → IsAbove before key
above_more zero before key le more same above = above
above_more (suc at) [] key le more same above = absurd (omega arith)
above_more (suc at) (a ∷ before) [] le more same above = absurd (omega arith)
above_more (suc at) (a ∷ before) (b ∷ key) le more same above =
    inr (ap (λ l. get_or l 0 0) same, above_more at before key (omega arith) (omega arith) (ap (drop 1) same) above)

take_front : (at : ℕ) (xs ys : List ℕ) → at ≤ length xs → take at (xs ++ ys) ≡ take at xs
take_front zero xs ys le = refl
take_front (suc at) [] ys le = absurd (omega arith)
take_front (suc at) (x ∷ xs) ys le = ap (λ l. x ∷ l) (take_front at xs ys (omega arith))

drop_front : (at : ℕ) (xs ys : List ℕ) → at ≤ length xs → drop at (xs ++ ys) ≡ drop at xs ++ ys
drop_front zero xs ys le = refl
drop_front (suc at) [] ys le = absurd (omega arith)
drop_front (suc at) (x ∷ xs) ys le = drop_front at xs ys (omega arith)

pub drop_step : (at : ℕ) (xs : List ℕ) → at < length xs → drop at xs ≡ get_or xs at 0 ∷ drop (at + 1) xs
drop_step at [] lt = absurd (omega arith)
drop_step zero (x ∷ xs) lt = refl
drop_step (suc at) (x ∷ xs) lt =
    let next : suc (at + 1) ≡ suc at + 1 = omega arith in
    drop_step at xs (omega arith) ∙ ap (λ n. get_or xs at 0 ∷ drop n (x ∷ xs)) next

-- so far a key's front is that of the one before, and there is room above it
pub record IsLevel (before front : List ℕ) (long at : ℕ) : Type 0 where
  pub within : at ≤ length before
  pub inside : at ≤ length front
  pub same : take at before ≡ take at front
  pub room : at + run (drop at before) < long

pub level_first : (before front : List ℕ) (long : ℕ) → run before < long → IsLevel before front long 0
level_first before front long lt =
    record { within = omega arith; inside = omega arith; same = refl; room = omega (arith, lt) }

key_of : (before key : List ℕ) (long : ℕ) → AreBytes key → length key ≡ long → long ≤ 65536 → IsAbove before key
    → IsKey (Some before) key
key_of before key long all whole limit above = ((all_of key all, omega (arith, whole)), above)

-- at any time the front so far can rise
pub level_rises : (before front : List ℕ) (long at : ℕ) → AreBytes before → AreBytes front → long ≤ 65536
    → IsLevel before front long at → Rises (Some before) (take at front) long
level_rises before front long at old new limit level =
    let n = long - at in
    let more : List ℕ = replicate n 255 in
    let key = take at front ++ more in
    let short : length (take at front) ≡ at = length-take-le at front level.inside in
    let whole : length key ≡ long =
    omega (arith, length-append (take at front) more, length_full n, short, level.room) in
    let front_is : take at before ≡ take at key = level.same
    ∙ sym (take_front at (take at front) more (omega (arith, short)) ∙ take_self at (take at front) short) in
    let rest : drop at key ≡ more = drop_front at (take at front) more (omega (arith, short))
    ∙ ap (λ l. l ++ more) (drop_self at (take at front) short) in
    let rises = subst (IsAbove (drop at before)) (sym rest)
    (run_rises (drop at before) n (bytes_drop at before old) (omega (arith, level.room))) in
    record {
      more = more;
      whole = whole;
      is_key = key_of before key long (bytes_append (take at front) more (bytes_take at front new) (bytes_full n))
          whole limit (above_more at before key level.within (omega (arith, whole, level.room)) front_is rises);
    }
  where
    take_self : (n : ℕ) (xs : List ℕ) → length xs ≡ n → take n xs ≡ xs
    take_self zero [] e = refl
    take_self zero (x ∷ xs) e = absurd (omega (arith, e))
    take_self (suc n) [] e = refl
    take_self (suc n) (x ∷ xs) e = ap (λ l. x ∷ l) (take_self n xs (omega (arith, e)))

    drop_self : (n : ℕ) (xs : List ℕ) → length xs ≡ n → drop n xs ≡ []
    drop_self zero [] e = refl
    drop_self zero (x ∷ xs) e = absurd (omega (arith, e))
    drop_self (suc n) [] e = refl
    drop_self (suc n) (x ∷ xs) e = drop_self n xs (omega (arith, e))

-- a front that is above, however it goes on
pub front_rises : (before front : List ℕ) (long at : ℕ) → AreBytes front → long ≤ 65536 → length front ≤ long
    → at < length front → IsLevel before front long at
    → ((more : List ℕ) → IsAbove (drop at before) (get_or front at 0 ∷ drop (at + 1) front ++ more))
    → Rises (Some before) front long
front_rises before front long at new limit fits lt level above =
    let n = long - length front in
    let more : List ℕ = replicate n 255 in
    let key = front ++ more in
    let whole : length key ≡ long = omega (arith, length-append front more, length_full n, fits) in
    let rest : drop at key ≡ get_or front at 0 ∷ drop (at + 1) front ++ more = drop_front at front more level.inside
    ∙ ap (λ l. l ++ more) (drop_step at front lt) in
    record {
      more = more;
      whole = whole;
      is_key = key_of before key long (bytes_append front more new (bytes_full n)) whole limit
          (above_more at before key level.within (omega (arith, whole, fits, lt)) (level.same
          ∙ sym (take_front at front more level.inside))
          (subst (IsAbove (drop at before)) (sym rest) (above more)));
    }

pub end_rises : (before front : List ℕ) (long at : ℕ) → AreBytes front → long ≤ 65536 → length front ≤ long
    → at < length front → IsLevel before front long at → at ≡ length before → Rises (Some before) front long
end_rises before front long at new limit fits lt level end =
    front_rises before front long at new limit fits lt level
    (λ more. subst (λ l. IsAbove l (get_or front at 0 ∷ drop (at + 1) front ++ more))
    (sym (none before at (omega (arith, end)))) tt)
  where
    none : (xs : List ℕ) (n : ℕ) → length xs ≤ n → drop n xs ≡ []
    none [] zero le = refl
    none [] (suc n) le = refl
    none (x ∷ xs) zero le = absurd (omega arith)
    none (x ∷ xs) (suc n) le = none xs n (omega arith)

pub greater_rises : (before front : List ℕ) (long at : ℕ) → AreBytes front → long ≤ 65536 → length front ≤ long
    → at < length front → at < length before → IsLevel before front long at → get_or before at 0 < get_or front at 0
    → Rises (Some before) front long
greater_rises before front long at new limit fits lt there level gt =
    front_rises before front long at new limit fits lt level
    (λ more. subst (λ l. IsAbove l (get_or front at 0 ∷ drop (at + 1) front ++ more))
    (sym (drop_step at before there)) (inl gt))

-- what a key with this byte would be
stop_with : (before front : List ℕ) (long at : ℕ) → at < length front → at < length before
    → IsLevel before front long at
    → ((key : List ℕ) → AreBytes key → length key ≡ long - at - 1
    → (get_or before at 0 < get_or front at 0) ⊎
    ((get_or before at 0 ≡ get_or front at 0) × IsAbove (drop (at + 1) before) key) → ⊥)
    → (key y : List ℕ) → IsKey (Some before) key → length key ≡ long → key ≡ take (at + 1) front ++ y → ⊥
stop_with before front long at lt there level never key y is whole laid =
    let short : length (take (at + 1) front) ≡ at + 1 = length-take-le (at + 1) front (omega (arith, lt)) in
    let cut : take at key ≡ take at front = ap (take at) laid
    ∙ take_front at (take (at + 1) front) y (omega (arith, short)) ∙ again at (at + 1) front (omega arith) in
    let long_ : at + 1 ≤ length key = omega (arith, ap length laid, length-append (take (at + 1) front) y, short) in
    let rest = above_less at before key level.within (omega (arith, long_)) (level.same ∙ sym cut) is.1 in
    let head : get_or key at 0 ≡ get_or front at 0 = ap (λ l. get_or l at 0) laid
    ∙ kept at (take (at + 1) front) y (omega (arith, short)) ∙ got at (at + 1) front (omega arith) in
    let opened : IsAbove (get_or before at 0 ∷ drop (at + 1) before) (get_or front at 0 ∷ drop (at + 1) key) =
    subst (λ l. IsAbove (get_or before at 0 ∷ drop (at + 1) before) (l ∷ drop (at + 1) key)) head
    (subst (λ l. IsAbove l (get_or key at 0 ∷ drop (at + 1) key)) (drop_step at before there)
    (subst (IsAbove (drop at before)) (drop_step at key (omega (arith, long_))) rest)) in
    never (drop (at + 1) key) (bytes_drop (at + 1) key (bytes_of key (is.0).0))
    (omega (arith, left (at + 1) key, whole)) opened
  where
    again : (n m : ℕ) (xs : List ℕ) → n ≤ m → take n (take m xs) ≡ take n xs
    again zero m xs le = refl
    again (suc n) zero xs le = absurd (omega arith)
    again (suc n) (suc m) [] le = refl
    again (suc n) (suc m) (x ∷ xs) le = ap (λ l. x ∷ l) (again n m xs (omega arith))

    kept : (n : ℕ) (xs ys : List ℕ) → n < length xs → get_or (xs ++ ys) n 0 ≡ get_or xs n 0
    kept n [] ys l = absurd (omega arith)
    kept zero (x ∷ xs) ys l = refl
    kept (suc n) (x ∷ xs) ys l = kept n xs ys (omega arith)

    got : (n m : ℕ) (xs : List ℕ) → n < m → get_or (take m xs) n 0 ≡ get_or xs n 0
    got n zero xs l = absurd (omega arith)
    got n (suc m) [] l = refl
    got zero (suc m) (x ∷ xs) l = refl
    got (suc n) (suc m) (x ∷ xs) l = got n m xs (omega arith)

    left : (n : ℕ) (xs : List ℕ) → length (drop n xs) ≡ length xs - n
    left zero xs = omega arith
    left (suc n) [] = omega arith
    left (suc n) (x ∷ xs) = omega (arith, left n xs)

pub less_stops : (before front : List ℕ) (long at : ℕ) → AreBytes before → AreBytes front → long ≤ 65536
    → at < length front → at < length before → IsLevel before front long at → get_or front at 0 < get_or before at 0
    → IsStop (Some before) front long at
less_stops before front long at old new limit lt there level less = record {
  within = lt;
  rises = level_rises before front long at old new limit level;
  stops = stop_with before front long at lt there level never;
}
  where
    never : (key : List ℕ) → AreBytes key → length key ≡ long - at - 1
        → (get_or before at 0 < get_or front at 0) ⊎
        ((get_or before at 0 ≡ get_or front at 0) × IsAbove (drop (at + 1) before) key) → ⊥
    never key all whole (inl gt) = omega (arith, gt, less)
    never key all whole (inr is) = omega (arith, is.0, less)

pub same_stops : (before front : List ℕ) (long at : ℕ) → AreBytes before → AreBytes front → long ≤ 65536
    → at < length front → at < length before → IsLevel before front long at → get_or front at 0 ≡ get_or before at 0
    → long - at - 1 ≤ run (drop (at + 1) before) → IsStop (Some before) front long at
same_stops before front long at old new limit lt there level same few = record {
  within = lt;
  rises = level_rises before front long at old new limit level;
  stops = stop_with before front long at lt there level never;
}
  where
    never : (key : List ℕ) → AreBytes key → length key ≡ long - at - 1
        → (get_or before at 0 < get_or front at 0) ⊎
        ((get_or before at 0 ≡ get_or front at 0) × IsAbove (drop (at + 1) before) key) → ⊥
    never key all whole (inl gt) = omega (arith, gt, same)
    never key all whole (inr is) = omega (arith, run_below (drop (at + 1) before) key all is.1, whole, few)

pub level_more : (before front : List ℕ) (long at : ℕ) → at < length front → at < length before
    → IsLevel before front long at → get_or front at 0 ≡ get_or before at 0
    → (get_or before at 0 < 255 → long - at - 1 ≤ run (drop (at + 1) before) → ⊥) → get_or before at 0 < 256
    → IsLevel before front long (at + 1)
level_more before front long at lt there level same more small = record {
  within = omega (arith, there);
  inside = omega (arith, lt);
  same = take_more before at 0 there ∙ (λ i. level.same i ++ (sym same i) ∷ []) ∙ sym (take_more front at 0 lt);
  room = room;
}
  where
    by : (t : Bool) → eqb (get_or before at 0) 255 ≡ t → at + 1 + run (drop (at + 1) before) < long
    by true e =
        let full = run_full (get_or before at 0) (drop (at + 1) before) (eqb-true (get_or before at 0) 255 e) in
        omega (arith, level.room, ap run (drop_step at before there), full)
    by false e =
        let less : get_or before at 0 < 255 = grind (arith, nat_tests) in
        elim (leq (long - at - 1) (run (drop (at + 1) before))) as (λ _. at + 1 + run (drop (at + 1) before) < long)
        [ inl le ↦ absurd (more less le) | inr gt ↦ omega (arith, gt) ]
      where
        leq : (m n : ℕ) → (m ≤ n) ⊎ (n < m)
        leq zero n = inl (omega arith)
        leq (suc m) zero = inr (omega arith)
        leq (suc m) (suc n) = elim (leq m n) as (λ _. (suc m ≤ suc n) ⊎ (suc n < suc m))
            [ inl le ↦ inl (omega (arith, le)) | inr gt ↦ inr (omega (arith, gt)) ]

    room : at + 1 + run (drop (at + 1) before) < long
    room = by (eqb (get_or before at 0) 255) refl

pub whole_rises : (before front : List ℕ) (long : ℕ) → AreBytes before → AreBytes front → long ≤ 65536
    → IsLevel before front long (length front) → Rises (Some before) front long
whole_rises before front long old new limit level =
    subst (λ l. Rises (Some before) l long) (all front)
    (level_rises before front long (length front) old new limit level)
  where
    all : (xs : List ℕ) → take (length xs) xs ≡ xs
    all [] = refl
    all (x ∷ xs) = ap (λ l. x ∷ l) (all xs)

-- after no key any front rises
pub free_rises : (front : List ℕ) (long : ℕ) → AreBytes front → long ≤ 65536 → length front ≤ long
    → Rises None front long
free_rises front long new limit fits =
    let n = long - length front in
    let more : List ℕ = replicate n 255 in
    let whole : length (front ++ more) ≡ long = omega (arith, length-append front more, length_full n, fits) in
    record {
      more = more;
      whole = whole;
      is_key =
          (all_of (front ++ more) (bytes_append front more new (bytes_full n)), omega (arith, whole, limit));
    }
