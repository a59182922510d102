-- What is among the elements of a list, by recursion on the list.
use Rattle.std.proofs.Common.{◌≡◌, ◌<◌, ℕ, zero, suc, ◌⊎◌, inl, inr, List, [], ◌∷◌, ◌++◌, length, Some, refl, subst, arith}
use Rattle.std.specs.List.{Contains, AllByRecursion, slice_get}

-- an element of a list
abbrev pub In : {X : Type 0} → X → List X → Type 0
In x [] = ⊥
In x (y ∷ ys) = (y ≡ x) ⊎ In x ys

-- between this form and std's
pub in-from_contains : {X : Type 0} (xs : List X) (x : X) → Contains xs x → In x xs
in-from_contains [] x (k, lt, e) = absurd (omega (arith, lt))
in-from_contains (y ∷ ys) x (zero, lt, e) = inl e
in-from_contains (y ∷ ys) x (suc k, lt, e) = inr (in-from_contains ys x (k, omega (arith, lt), e))

-- and back
pub contains-from_in : {X : Type 0} (xs : List X) (x : X) → In x xs → Contains xs x
contains-from_in [] x is = absurd is
contains-from_in (y ∷ ys) x (inl e) = (zero, omega arith, e)
contains-from_in (y ∷ ys) x (inr is) = let (k, lt, e) = contains-from_in ys x is in (suc k, omega (arith, lt), e)

-- an element of the first of two lists
pub in-left : {X : Type 0} (xs ys : List X) (x : X) → In x xs → In x (xs ++ ys)
in-left [] ys x is = absurd is
in-left (z ∷ xs) ys x (inl e) = inl e
in-left (z ∷ xs) ys x (inr is) = inr (in-left xs ys x is)

-- of the second
pub in-right : {X : Type 0} (xs ys : List X) (x : X) → In x ys → In x (xs ++ ys)
in-right [] ys x is = is
in-right (z ∷ xs) ys x is = inr (in-right xs ys x is)

-- of both together
pub in-either : {X : Type 0} (xs ys : List X) (x : X) → In x (xs ++ ys) → In x xs ⊎ In x ys
in-either [] ys x is = inr is
in-either (z ∷ xs) ys x (inl e) = inl (inl e)
in-either (z ∷ xs) ys x (inr is) = more (in-either xs ys x is)
  where
    more : In x xs ⊎ In x ys → In x (z ∷ xs) ⊎ In x ys
    more (inl i) = inl (inr i)
    more (inr i) = inr i

-- ---- places

-- what holds of each element holds of the one at a place
pub all-get : {X : Type 0} (P : X → Type 0) (xs : List X) (k : ℕ) (x : X) → AllByRecursion P xs → slice_get xs k ≡ Some x → P x
all-get P [] k x all at = absurd cc
all-get P (y ∷ xs) zero x (own, all) at = subst P (cc at) own
all-get P (y ∷ xs) (suc k) x (own, all) at = all-get P xs k x all at

-- what holds of each element of lists, one after another, and of a front and the rest of one
pub all-more : {X : Type 0} (P : X → Type 0) (xs : List X) (x : X) → AllByRecursion P xs → P x → AllByRecursion P (xs ++ x ∷ [])
all-more P [] x all own = (own, tt)
all-more P (y ∷ xs) x (first, all) own = (first, all-more P xs x all own)

-- of a front
pub all-front : {X : Type 0} (P : X → Type 0) (a b : List X) → AllByRecursion P (a ++ b) → AllByRecursion P a
all-front P [] b all = tt
all-front P (x ∷ a) b (own, all) = (own, all-front P a b all)

-- of the rest
pub all-behind : {X : Type 0} (P : X → Type 0) (a b : List X) → AllByRecursion P (a ++ b) → AllByRecursion P b
all-behind P [] b all = all
all-behind P (x ∷ a) b (own, all) = all-behind P a b all

-- each place within a list has an element
pub get-within : {X : Type 0} (xs : List X) (k : ℕ) → k < length xs → (x : X) × (slice_get xs k ≡ Some x)
get-within [] k lt = absurd (omega (arith, lt))
get-within (y ∷ xs) zero lt = (y, refl)
get-within (y ∷ xs) (suc k) lt = get-within xs k (omega (arith, lt))

-- a list with one more at its end, and a place in it: the place is that end, or is before it
pub record InFront {X : Type 0} (xs : List X) (y : X) (before : List X) (x : X) (after : List X) : Type 0 where
  pub rest : List X
  pub after_is : after ≡ rest ++ y ∷ []
  pub front : xs ≡ before ++ x ∷ rest

-- the place is the end
pub record IsEnd {X : Type 0} (xs : List X) (y : X) (before : List X) (x : X) (after : List X) : Type 0 where
  pub whole : xs ≡ before
  pub same : y ≡ x
  pub none : after ≡ []

-- the place is the end, or is before it
pub end_or_front : {X : Type 0} (xs : List X) (y : X) (before : List X) (x : X) (after : List X) → xs ++ y ∷ [] ≡ before ++ x ∷ after
    → IsEnd xs y before x after ⊎ InFront xs y before x after
end_or_front [] y [] x after e = inl (record { whole = refl; same = cc; none = cc })
end_or_front [] y (b ∷ []) x after e = absurd cc
end_or_front [] y (b ∷ c ∷ before) x after e = absurd cc
end_or_front (z ∷ xs) y [] x after e = inr (record { rest = xs; after_is = cc; front = cc })
end_or_front (z ∷ xs) y (b ∷ before) x after e = more (end_or_front xs y before x after (cc))
  where
    head : z ≡ b
    head = cc

    more : IsEnd xs y before x after ⊎ InFront xs y before x after → IsEnd (z ∷ xs) y (b ∷ before) x after ⊎ InFront (z ∷ xs) y (b ∷ before) x after
    more (inl end) = inl (record { whole = let w = end.whole in cc head; same = end.same; none = end.none })
    more (inr front) = inr (record { rest = front.rest; after_is = front.after_is; front = let w = front.front in cc head })

-- of two fronts of a list, one is a front of the other
pub record IsBehind {X : Type 0} (front whole : List X) : Type 0 where
  pub rest : List X
  pub is : whole ≡ front ++ rest

-- the second list goes on after the first
pub record IsFurther {X : Type 0} (front whole : List X) : Type 0 where
  pub next : X
  pub rest : List X
  pub is : whole ≡ front ++ next ∷ rest

-- one of them goes on after the other, or they are the same
pub fronts : {X : Type 0} (a b c d : List X) → a ++ b ≡ c ++ d → IsBehind a c ⊎ IsFurther c a
fronts [] b c d e = inl (record { rest = c; is = refl })
fronts (x ∷ a) b [] d e = inr (record { next = x; rest = a; is = refl })
fronts (x ∷ a) b (y ∷ c) d e = by (fronts a b c d (cc))
  where
    head : x ≡ y
    head = cc

    by : IsBehind a c ⊎ IsFurther c a → IsBehind (x ∷ a) (y ∷ c) ⊎ IsFurther (y ∷ c) (x ∷ a)
    by (inl more) = inl (record { rest = more.rest; is = let m = more.is in cc head })
    by (inr more) = inr (record { next = more.next; rest = more.rest; is = let m = more.is in cc head })
