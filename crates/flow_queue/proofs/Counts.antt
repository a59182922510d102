-- Counting in lists and over views.
use Rattle.std.specs.Prelude.{◌==◌, if◌then◌else◌}
use Rattle.std.proofs.Common.{◌≡◌, ◌≢◌, ◌⊎◌, inl, inr, ℕ, zero, suc, ◌+◌, ◌<◌, ◌≤◌, eqb, Bool, true, false, ◌||◌, List, [], ◌∷◌, ◌++◌, length, set, Option, Some, None, refl, sym, ap, subst, ◌∙◌, arith}
use Rattle.std.specs.List.{slice_get, AllByRecursion, list_any, IsDistinct, sum_by}
use Rattle.std.proofs.lemmas.Bool.{eqb-true, eq-eqb, ne_eqb}
use Rattle.std.proofs.lemmas.Bool.Decides.{eqb_tells}
use Rattle.std.proofs.lemmas.Option.{slice_get_within}
use Rattle.std.proofs.lemmas.List.Sums.{sum_by-cons, sum_by_push}
use Rattle.std.proofs.lemmas.Map.Steps.{length-le_from_distinct_below}
use mathlib.Core.Option.{some, some-injective, some-ne-none}
use lib.ListN.{get_elem?}
use Rattle.flow_queue.specs.declared.views.Placed.{Placed}
use Rattle.flow_queue.specs.Rule.{numbers, times, marks, StandsIn, IsBehind}

-- ---- sums over views

pub sum_set : {X : Type 0} (f : X → ℕ) (xs : List X) (i : ℕ) (old new : X) → get_elem? xs i ≡ some old
    → sum_by f (set xs i new) + f old ≡ sum_by f xs + f new
sum_set f [] i old new at = absurd (some-ne-none old (sym at))
sum_set f (x ∷ xs) zero old new at =
    let same : f x ≡ f old = ap f (some-injective x old at) in
    let one = sum_by-cons f x xs in let other = sum_by-cons f new xs in omega (arith, same, one, other)
sum_set f (x ∷ xs) (suc i) old new at =
    let rest = sum_set f xs i old new at in
    let one = sum_by-cons f x xs in let other = sum_by-cons f x (set xs i new) in omega (arith, rest, one, other)

pub sum_at : {X : Type 0} (f : X → ℕ) (xs : List X) (i : ℕ) (x : X) → get_elem? xs i ≡ some x → f x ≤ sum_by f xs
sum_at f [] i x at = absurd (some-ne-none x (sym at))
sum_at f (y ∷ xs) zero x at =
    let same : f y ≡ f x = ap f (some-injective y x at) in let one = sum_by-cons f y xs in omega (arith, same, one)
sum_at f (y ∷ xs) (suc i) x at =
    let rest = sum_at f xs i x at in let one = sum_by-cons f y xs in omega (arith, rest, one)

pub sum_none : {X : Type 0} (f : X → ℕ) (xs : List X)
    → ((i : ℕ) (x : X) → get_elem? xs i ≡ some x → f x ≡ 0) → sum_by f xs ≡ 0
sum_none f [] none = refl
sum_none f (x ∷ xs) none =
    let one = sum_by-cons f x xs in let here = none zero x refl in
    let rest = sum_none f xs (λ i y at. none (suc i) y at) in omega (arith, one, here, rest)

-- ---- lists in which all is so

pub all_then : {X : Type 0} (P : X → Type 0) (xs ys : List X) → AllByRecursion P xs → AllByRecursion P ys
    → AllByRecursion P (xs ++ ys)
all_then P [] ys one other = other
all_then P (x ∷ xs) ys (here, one) other = (here, all_then P xs ys one other)

pub all_map : {X : Type 0} (P Q : X → Type 0) (xs : List X) → ((x : X) → P x → Q x) → AllByRecursion P xs
    → AllByRecursion Q xs
all_map P Q [] f all = tt
all_map P Q (x ∷ xs) f (here, all) = (f x here, all_map P Q xs f all)

-- ---- numbers

pub times_then : (n : ℕ) (xs ys : List ℕ) → times n (xs ++ ys) ≡ times n xs + times n ys
times_then n [] ys = omega arith
times_then n (x ∷ xs) ys = let rest = times_then n xs ys in omega (arith, rest)

pub numbers_below : (n : ℕ) → AllByRecursion (λ x. x < n) (numbers n)
numbers_below zero = tt
numbers_below (suc n) =
    all_then (λ x. x < suc n) (numbers n) (n ∷ [])
    (all_map (λ x. x < n) (λ x. x < suc n) (numbers n) (λ x lt. omega (arith, lt)) (numbers_below n))
    (omega arith, tt)

pub length-numbers : (n : ℕ) → length (numbers n) ≡ n
length-numbers zero = refl
length-numbers (suc n) = let rest = length-numbers n in long (numbers n) n n rest
  where
    long : (xs : List ℕ) (x k : ℕ) → length xs ≡ k → length (xs ++ x ∷ []) ≡ suc k
    long [] x k is = omega (arith, is)
    long (y ∷ xs) x zero is = absurd (omega (arith, is))
    long (y ∷ xs) x (suc k) is = let rest = long xs x k (omega (arith, is)) in omega (arith, rest)

-- a number isn't in a list of lower ones
times_apart : (n : ℕ) (xs : List ℕ) → AllByRecursion (λ x. x < n) xs → times n xs ≡ 0
times_apart n [] all = refl
times_apart n (x ∷ xs) (lt, all) =
    let apart : (x == n) ≡ false = ne_eqb x n (λ is. omega (arith, lt, is)) in
    let rest = times_apart n xs all in rw apart (omega (arith, rest))

one_or_none : (x n : ℕ) → (if x == n then 1 else 0) ≤ 1
one_or_none x n = elim (x == n) as (λ b. (if b then 1 else 0) ≤ 1) [ true ↦ omega arith | false ↦ omega arith ]

pub times-numbers : (x n : ℕ) → times x (numbers n) ≤ 1
times-numbers x zero = omega arith
times-numbers x (suc n) = by_cases (times-numbers x n) (eqb_tells n x)
  where
    by_cases : times x (numbers n) ≤ 1 → ((eqb n x ≡ true) × (n ≡ x)) ⊎ ((eqb n x ≡ false) × (n ≢ x))
        → times x (numbers n ++ n ∷ []) ≤ 1
    by_cases few (inl (is, same)) =
        let split = times_then x (numbers n) (n ∷ []) in
        let none : times x (numbers n) ≡ 0 = times_apart x (numbers n) (subst (λ k. AllByRecursion (λ y. y < k) (numbers n)) same (numbers_below n)) in
        let here = one_or_none n x in omega (arith, split, none, here)
    by_cases few (inr (is, apart)) =
        let split = times_then x (numbers n) (n ∷ []) in
        let here : (if n == x then 1 else 0) ≡ 0 = let P : Bool → ℕ = λ b. if b then 1 else 0 in ap P is in omega (arith, split, few, here)

-- no number twice: as many as fit below a count
distinct : (xs : List ℕ) → ((n : ℕ) → times n xs ≤ 1) → IsDistinct eqb xs
unfolding IsDistinct
distinct [] once = tt
distinct (x ∷ xs) once = (apart xs none, distinct xs (λ n. let both = once n in omega (arith, both)))
  where
    none : times x xs ≡ 0
    none = let both = once x in let P : Bool → ℕ = λ b. if b then 1 else 0 in let here : P (x == x) ≡ 1 = ap P (eq-eqb x x refl) in omega (arith, both, here)

    apart : (ys : List ℕ) → times x ys ≡ 0 → AllByRecursion (λ y. eqb x y ≡ false) ys
    apart [] is = tt
    apart (y ∷ ys) is = (ne_eqb x y (λ same. let P : Bool → ℕ = λ b. if b then 1 else 0 in let here : P (y == x) ≡ 1 = ap P (eq-eqb y x (sym same)) in omega (arith, is, here)), apart ys (omega (arith, is)))

below_any : (n q : ℕ) (xs : List ℕ) → AllByRecursion (λ x. x < n) xs → list_any (eqb q) xs ≡ true → q < n
below_any n q [] all any = absurd cc
below_any n q (x ∷ xs) (lt, all) any = by (eqb q x) refl any (λ rest. below_any n q xs all rest)
  where
    by : (b : Bool) → eqb q x ≡ b → (b || list_any (eqb q) xs) ≡ true → (list_any (eqb q) xs ≡ true → q < n) → q < n
    by true is any more = let same = eqb-true q x is in omega (arith, lt, same)
    by false is any more = more any

pub few_below : (n : ℕ) (xs : List ℕ) → ((x : ℕ) → times x xs ≤ 1) → AllByRecursion (λ x. x < n) xs → length xs ≤ n
few_below n xs once all = length-le_from_distinct_below xs n (distinct xs once) (λ q any. below_any n q xs all any)

-- ---- places

pub marks_then : (n : ℕ) (xs ys : List Placed) → marks n (xs ++ ys) ≡ marks n xs + marks n ys
marks_then n [] ys = omega arith
marks_then n (x ∷ xs) ys = let rest = marks_then n xs ys in omega (arith, rest)

pub mark_here : (placed : Placed) (place : ℕ) → placed.place ≡ place → marks place (placed ∷ []) ≡ 1
mark_here placed place is = rw (eq-eqb placed.place place is) refl

pub mark_else : (placed : Placed) (place : ℕ) → placed.place ≢ place → marks place (placed ∷ []) ≡ 0
mark_else placed place apart = rw (ne_eqb placed.place place apart) refl

-- what is in a list is before its end
pub behind : (all : List ℕ) (xs : List Placed) → AllByRecursion (StandsIn all) xs → IsBehind (length all) xs
behind all [] stand = tt
behind all (x ∷ xs) (here, stand) = (slice_get_within all x.place x.number here, behind all xs stand)

pub marks_behind : (place : ℕ) (xs : List Placed) → IsBehind place xs → marks place xs ≡ 0
marks_behind place [] all = refl
marks_behind place (x ∷ xs) (lt, all) =
    let rest = marks_behind place xs all in
    let here = mark_else x place (λ is. omega (arith, lt, is)) in omega (arith, rest, here)

pub place_then : (all more : List ℕ) (i x : ℕ) → slice_get all i ≡ Some x → slice_get (all ++ more) i ≡ Some x
place_then [] more i x is = absurd cc
place_then (y ∷ all) more zero x is = is
place_then (y ∷ all) more (suc i) x is = place_then all more i x is

pub place_last : (all : List ℕ) (x : ℕ) → slice_get (all ++ x ∷ []) (length all) ≡ Some x
place_last [] x = refl
place_last (y ∷ all) x = place_last all x
