-- What a set of borrowed names has is what its names have.
use Rattle.std.proofs.Common.{◌≡◌, ◌≤◌, ◌+◌, ℕ, suc, Bool, true, false, not, cond, ltb, arith, ◌||◌, if◌then◌else◌, length, List, [], ◌∷◌, ◌++◌, map, Option, Some, None, refl, ap, ◌∙◌}
use Rattle.std.specs.List.{list_any, position, position_or_len, prefix_len}
use Rattle.std.specs.Option.{unwrap_or}
use Rattle.std.proofs.lemmas.Bool.Decides.{nat_tests}
use Rattle.std.proofs.lemmas.List.{map_push}

prefix_map : {X Y : Type 0} (f : X → Y) (q : Y → Bool) (xs : List X) → prefix_len (λ x. q (f x)) xs ≡ prefix_len q (map f xs)
prefix_map f q [] = refl
prefix_map f q (x ∷ xs) = ap (λ (n : ℕ). cond (q (f x)) (1 + n) 0) (prefix_map f q xs)

pub map_length : {X Y : Type 0} (f : X → Y) (xs : List X) → length xs ≡ length (map f xs)
map_length f [] = refl
map_length f (x ∷ xs) = ap (λ (n : ℕ). suc n) (map_length f xs)

pub position_map : {X Y : Type 0} (f : X → Y) (p : Y → Bool) (xs : List X) → position (λ x. p (f x)) xs ≡ position p (map f xs)
position_map f p xs =
    ap (λ (n : ℕ). cond (ltb n (length xs)) (Some n) None) (prefix_map f (λ y. not (p y)) xs)
    ∙ ap (λ (m : ℕ). cond (ltb (prefix_len (λ y. not (p y)) (map f xs)) m) (Some (prefix_len (λ y. not (p y)) (map f xs))) None) (map_length f xs)

within : {X : Type 0} (q : X → Bool) (xs : List X) → prefix_len q xs ≤ length xs
within q [] = omega arith
within q (x ∷ xs) = one (q x) refl (within q xs)
  where
    one : (t : Bool) → q x ≡ t → prefix_len q xs ≤ length xs → prefix_len q (x ∷ xs) ≤ length (x ∷ xs)
    one true e more = rw e (omega (arith, more))
    one false e more = rw e (omega arith)

-- where a name is found, and where it isn't
place_found : {X : Type 0} (p : X → Bool) (xs : List X) (i : ℕ) → position p xs ≡ Some i → i ≡ position_or_len p xs
place_found p xs i e = one (ltb (position_or_len p xs) (length xs)) refl
  where
    one : (t : Bool) → ltb (position_or_len p xs) (length xs) ≡ t → i ≡ position_or_len p xs
    one true l = let h : ◌≡◌ {A = Option ℕ} (Some (position_or_len p xs)) (Some i) = rw l at e in cc
    one false l = let h : ◌≡◌ {A = Option ℕ} None (Some i) = rw l at e in absurd cc

place_lost : {X : Type 0} (p : X → Bool) (xs : List X) → position p xs ≡ None → length xs ≡ position_or_len p xs
place_lost p xs e = one (ltb (position_or_len p xs) (length xs)) refl
  where
    one : (t : Bool) → ltb (position_or_len p xs) (length xs) ≡ t → length xs ≡ position_or_len p xs
    one true l = let h : ◌≡◌ {A = Option ℕ} (Some (position_or_len p xs)) None = rw l at e in absurd cc
    one false l = let le = within (λ x. not (p x)) xs in grind (arith, nat_tests, l, le)

-- a place, or the number of names
pub place_or : {X : Type 0} (p : X → Bool) (xs : List X) → unwrap_or (position p xs) (length xs) ≡ position_or_len p xs
place_or p xs = one (position p xs) refl
  where
    one : (o : Option ℕ) → position p xs ≡ o → unwrap_or o (length xs) ≡ position_or_len p xs
    one (Some i) e = place_found p xs i e
    one None e = place_lost p xs e

pub any_map : {X Y : Type 0} (f : X → Y) (p : Y → Bool) (xs : List X) → list_any (λ x. p (f x)) xs ≡ list_any p (map f xs)
any_map f p [] = refl
any_map f p (x ∷ xs) = ap (λ (t : Bool). p (f x) || t) (any_map f p xs)

-- a key more, where it isn't there yet
pub added : {X Y : Type 0} (f : X → Y) (b : Bool) (c : Bool) (xs : List X) (x : X) → b ≡ c → map f (if b then xs else xs ++ x ∷ []) ≡ (if c then map f xs else map f xs ++ f x ∷ [])
added f true true xs x same = refl
added f false false xs x same = map_push f xs x
added f true false xs x same = absurd cc
added f false true xs x same = absurd cc
