-- The search for the entry that goes.
use Rattle.std.proofs.Common.{◌≡◌, ℕ, ℤ, ◌+◌, ◌<◌, ◌≤◌, pos, negsuc, ◌≤ℤ◌, ◌&&◌, Bool, true, false, List, [], ◌∷◌, ◌++◌, length, take, get_or, map, Option, Some, None, IfSome, Bor, int_le, refl, sym, ap, ◌∙◌, subst, append_assoc, arith}
use lib.Signed.{le_z_yes}
use lib.Dec.{T}
use Rattle.std.specs.List.{AllByRecursion, list_all, filter, find}
use Rattle.std.specs.Option.{option_map}
use Rattle.std.proofs.lemmas.Bool.Decides.{nat_tests}
use Rattle.std.proofs.lemmas.Int.{ints}
use Rattle.std.proofs.lemmas.List.{append-nil, length-map, take_more, take_all, get_or-map}
use Rattle.std.proofs.lemmas.List.Elements.{filter-append}
use Rattle.std.proofs.lemmas.List.Folds.{list_all-append}
use Rattle.flux_values.specs.Cells.{CellMap}
use Rattle.nodes_cache.specs.Entries.{uses_of, users_of, is_zero, entries, free_entries, is_least_used, leaving}
use Rattle.nodes_cache.specs.steps.Leaving.{IsFirstLeast, IsFound}
use Rattle.nodes_cache.proofs.EntryLemmas.{leaving_short}

-- ---- tests of numbers

sound : (a b : ℤ) → int_le a b ≡ true → a ≤ℤ b
sound a b e = le_z_yes (subst T (sym e) tt)

complete : (a b : ℤ) → a ≤ℤ b → int_le a b ≡ true
complete a b h = one (int_le a b) refl
  where
    one : (t : Bool) → int_le a b ≡ t → int_le a b ≡ true
    one true e = e
    one false e = absurd (subst T e h.le)

le_self : (a : ℤ) → int_le a a ≡ true
le_self a = complete a a (omega (arith, ints))

le_through : (a b c : ℤ) → int_le a b ≡ true → int_le b c ≡ true → int_le a c ≡ true
le_through a b c e f = let p = sound a b e in let q = sound b c f in complete a c (omega (arith, ints))

-- what isn't below is above
le_other : (a b : ℤ) → int_le a b ≡ false → int_le b a ≡ true
le_other (pos a) (pos b) e = grind (arith, nat_tests)
le_other (pos a) (negsuc b) e = refl
le_other (negsuc a) (pos b) e = absurd cc
le_other (negsuc a) (negsuc b) e = grind (arith, nat_tests)

-- a is below b and b is below c: c isn't below a
lt_le : (a b c : ℤ) → int_le b a ≡ false → int_le b c ≡ true → int_le c a ≡ false
lt_le a b c e f = one (int_le c a) refl
  where
    one : (t : Bool) → int_le c a ≡ t → int_le c a ≡ false
    one false g = g
    one true g = absurd (let h = sym (le_through b c a f g) ∙ e in cc)

-- ---- a name more

all_more : (P : List ℕ → Type 0) (xs : List (List ℕ)) (x : List ℕ) → AllByRecursion P xs → P x → AllByRecursion P (xs ++ x ∷ [])
all_more P [] x all own = (own, tt)
all_more P (y ∷ xs) x all own = (all.0, all_more P xs x all.1 own)

all_join : (P : List ℕ → Type 0) (xs ys : List (List ℕ)) → AllByRecursion P xs → AllByRecursion P ys → AllByRecursion P (xs ++ ys)
all_join P [] ys one two = two
all_join P (x ∷ xs) ys one two = (one.0, all_join P xs ys one.1 two)

all_through : (P Q : List ℕ → Type 0) → ((x : List ℕ) → P x → Q x) → (xs : List (List ℕ)) → AllByRecursion P xs → AllByRecursion Q xs
all_through P Q f [] all = tt
all_through P Q f (x ∷ xs) all = (f x all.0, all_through P Q f xs all.1)

-- the name doesn't take the place of one that has no more uses
pub keeps_least : (cell : CellMap) (names : List (List ℕ)) (first name : List ℕ) → IsFirstLeast cell names first → int_le (uses_of cell first) (uses_of cell name) ≡ true → IsFirstLeast cell (names ++ name ∷ []) first
keeps_least cell names first name is le = record {
  before = is.before;
  after = is.after ++ name ∷ [];
  are = ap (λ (l : List (List ℕ)). l ++ name ∷ []) is.are ∙ append_assoc is.before (first ∷ is.after) (name ∷ []);
  fewer = is.fewer;
  least = all_more (λ other. int_le (uses_of cell first) (uses_of cell other) ≡ true) is.after name is.least le;
}

-- it takes the place of one that has more
pub takes_least : (cell : CellMap) (names : List (List ℕ)) (first name : List ℕ) → IsFirstLeast cell names first → int_le (uses_of cell first) (uses_of cell name) ≡ false → IsFirstLeast cell (names ++ name ∷ []) name
takes_least cell names first name is more =
    let P : List ℕ → Type 0 = λ other. int_le (uses_of cell other) (uses_of cell name) ≡ false in
    let behind : AllByRecursion P is.after = all_through (λ other. int_le (uses_of cell first) (uses_of cell other) ≡ true) P (λ x h. lt_le (uses_of cell name) (uses_of cell first) (uses_of cell x) more h) is.after is.least in
    let ahead : AllByRecursion P is.before = all_through (λ other. int_le (uses_of cell other) (uses_of cell first) ≡ false) P (λ x h. lt_le (uses_of cell name) (uses_of cell first) (uses_of cell x) more (le_other (uses_of cell x) (uses_of cell first) h)) is.before is.fewer in
    record {
      before = names;
      after = [];
      are = refl;
      fewer = subst (AllByRecursion P) (sym is.are) (all_join P is.before (first ∷ is.after) ahead (more, behind));
      least = tt;
    }

pub first_least : (cell : CellMap) (names : List (List ℕ)) (name : List ℕ) → names ≡ [] → IsFirstLeast cell (names ++ name ∷ []) name
first_least cell names name none = subst (λ (l : List (List ℕ)). IsFirstLeast cell (l ++ name ∷ []) name) (sym none) (record { before = []; after = []; are = refl; fewer = tt; least = tt })

-- ---- what is found is the first that has no more uses than any

and_false : (t : Bool) → (t && false) ≡ false
and_false true = refl
and_false false = refl

no_least : (cell : CellMap) (names before after : List (List ℕ)) (name other : List ℕ) → names ≡ before ++ name ∷ after → int_le (uses_of cell other) (uses_of cell name) ≡ false → is_least_used cell names other ≡ false
no_least cell names before after name other are more =
    let test : List ℕ → Bool = λ y. int_le (uses_of cell other) (uses_of cell y) in
    ap (list_all test) are ∙ list_all-append test before (name ∷ after) ∙ ap (λ (t : Bool). list_all test before && (t && list_all test after)) more ∙ and_false (list_all test before)

find_past : (p : List ℕ → Bool) (before after : List (List ℕ)) (name : List ℕ) → AllByRecursion (λ y. p y ≡ false) before → p name ≡ true → find p (before ++ name ∷ after) ≡ Some name
find_past p [] after name none own = rw own refl
find_past p (y ∷ before) after name none own = rw none.0 (find_past p before after name none.1 own)

all_true : (p : List ℕ → Bool) (xs : List (List ℕ)) → AllByRecursion (λ x. p x ≡ true) xs → list_all p xs ≡ true
all_true p [] all = refl
all_true p (x ∷ xs) all = rw all.0 (all_true p xs all.1)

found_first : (cell : CellMap) (names : List (List ℕ)) (name : List ℕ) → IsFirstLeast cell names name → find (is_least_used cell names) names ≡ Some name
found_first cell names name is =
    let test : List ℕ → Bool = λ other. int_le (uses_of cell name) (uses_of cell other) in
    let More : List ℕ → Type 0 = λ other. int_le (uses_of cell other) (uses_of cell name) ≡ false in
    let Q : List ℕ → Type 0 = λ other. test other ≡ true in
    let ahead : AllByRecursion Q is.before = all_through More Q (λ x h. le_other (uses_of cell x) (uses_of cell name) h) is.before is.fewer in
    let here : Q name = le_self (uses_of cell name) in
    let own : is_least_used cell names name ≡ true = ap (list_all test) is.are ∙ all_true test (is.before ++ name ∷ is.after) (all_join Q is.before (name ∷ is.after) ahead (here, is.least)) in
    ap (find (is_least_used cell names)) is.are
    ∙ find_past (is_least_used cell names) is.before is.after name (all_through More (λ y. is_least_used cell names y ≡ false) (λ y more. no_least cell names is.before is.after name y is.are more) is.before is.fewer) own

found_is : (cell : CellMap) (names : List (List ℕ)) (least : Option (Bor (List ℕ))) → IsFound cell names least → option_map (λ found. found.now) least ≡ find (is_least_used cell names) names
found_is cell names None none = sym (ap (λ (l : List (List ℕ)). find (is_least_used cell l) l) none)
found_is cell names (Some name) is = sym (found_first cell names name.now is)

-- ---- the search, name by name

abbrev free : CellMap → List (List ℕ) → List (List ℕ)
free cell names = filter (λ n. is_zero (users_of cell n)) names

free_more : (cell : CellMap) (names : List (List ℕ)) (name : List ℕ) → is_zero (users_of cell name) ≡ true → free cell (names ++ name ∷ []) ≡ free cell names ++ name ∷ []
free_more cell names name is =
    let own : free cell (name ∷ []) ≡ name ∷ [] = rw is refl in
    filter-append (λ n. is_zero (users_of cell n)) names (name ∷ []) ∙ ap (λ (l : List (List ℕ)). free cell names ++ l) own

free_same : (cell : CellMap) (names : List (List ℕ)) (name : List ℕ) → is_zero (users_of cell name) ≡ false → free cell (names ++ name ∷ []) ≡ free cell names
free_same cell names name is =
    let none : free cell (name ∷ []) ≡ [] = rw is refl in
    filter-append (λ n. is_zero (users_of cell n)) names (name ∷ []) ∙ ap (λ (l : List (List ℕ)). free cell names ++ l) none ∙ append-nil (free cell names)

-- the next of the names
next_name : (names : List (Bor (List ℕ))) (k : ℕ) (d : Bor (List ℕ)) → k < length names → take (k + 1) (map (λ n. n.now) names) ≡ take k (map (λ n. n.now) names) ++ (get_or names k d).now ∷ []
next_name names k d lt =
    let at = get_or-map (λ (n : Bor (List ℕ)). n.now) names k d d.now lt in
    take_more (map (λ n. n.now) names) k d.now (omega (arith, lt, length-map names (λ (n : Bor (List ℕ)). n.now))) ∙ ap (λ (x : List ℕ). take k (map (λ n. n.now) names) ++ x ∷ []) at

-- what is found of the first names
abbrev pub IsFoundSoFar : CellMap → List (Bor (List ℕ)) → ℕ → Option (Bor (List ℕ)) → Type 0
IsFoundSoFar cell names k least = IsFound cell (free cell (take k (map (λ n. n.now) names))) least

-- a name that isn't free
pub found_same : (cell : CellMap) (names : List (Bor (List ℕ))) (k : ℕ) (d : Bor (List ℕ)) (least : Option (Bor (List ℕ))) → IsFoundSoFar cell names k least → k < length names → is_zero (users_of cell (get_or names k d).now) ≡ false
    → IsFoundSoFar cell names (k + 1) least
found_same cell names k d least so lt is =
    subst (λ (l : List (List ℕ)). IsFound cell l least) (sym (ap (free cell) (next_name names k d lt) ∙ free_same cell (take k (map (λ n. n.now) names)) (get_or names k d).now is)) so

-- a free one
pub found_more : (cell : CellMap) (names : List (Bor (List ℕ))) (k : ℕ) (d : Bor (List ℕ)) (least : Option (Bor (List ℕ))) (new : Bor (List ℕ)) → IsFoundSoFar cell names k least → k < length names → is_zero (users_of cell (get_or names k d).now) ≡ true
    → ((ns : List (List ℕ)) → IsFound cell ns least → IsFirstLeast cell (ns ++ (get_or names k d).now ∷ []) new.now) → IsFoundSoFar cell names (k + 1) (Some new)
found_more cell names k d least new so lt is more =
    subst (λ (l : List (List ℕ)). IsFirstLeast cell l new.now) (sym (ap (free cell) (next_name names k d lt) ∙ free_more cell (take k (map (λ n. n.now) names)) (get_or names k d).now is)) (more (free cell (take k (map (λ n. n.now) names))) so)

pub all_found : (cell : CellMap) (names : List (Bor (List ℕ))) (k : ℕ) (least : Option (Bor (List ℕ))) → IsFoundSoFar cell names k least → map (λ n. n.now) names ≡ entries cell → length names ≤ k
    → option_map (λ found. found.now) least ≡ leaving cell
all_found cell names k least so are end =
    let whole = subst (λ (l : List (List ℕ)). IsFound cell (free cell l) least) (take_all k (map (λ n. n.now) names) (omega (arith, end, length-map names (λ (n : Bor (List ℕ)). n.now))) ∙ are) so in
    found_is cell (free_entries cell) least whole

pub short_found : (cell : CellMap) (least : Option (Bor (List ℕ))) → option_map (λ found. found.now) least ≡ leaving cell → IfSome least (λ found. length found.now ≤ 1024)
short_found cell None e = tt
short_found cell (Some name) e = leaving_short cell name.now (sym e)
