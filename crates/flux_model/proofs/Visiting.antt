-- Visits grow by what is visited, and reach what is led to.
use Rattle.std.proofs.Common.{◌≡◌, ◌<◌, ℕ, zero, suc, Bool, true, false, eqb, ◌||◌, ◌&&◌, ◌⊎◌, inl, inr, List, [], ◌∷◌, ◌++◌, length, Some, refl, sym, ap, subst, ◌∙◌, arith}
use Rattle.std.specs.List.{list_any, list_all, slice_get}
use Rattle.std.proofs.lemmas.Bool.Decides.{nat_tests}
use Rattle.flux_model.specs.declared.programs.NodeNo.{NodeNo}
use Rattle.flux_model.specs.Children.{IsIn}
use Rattle.flux_model.specs.Visits.{IsKnown, with_number, with_all}

-- ---- what is known

any_append : (x : ℕ) (a b : List ℕ) → list_any (eqb x) (a ++ b) ≡ (list_any (eqb x) a || list_any (eqb x) b)
any_append x [] b = refl
any_append x (y ∷ a) b = rw (any_append x a b) (either (eqb x y) (list_any (eqb x) a) (list_any (eqb x) b))
  where
    either : (p q r : Bool) → (p || (q || r)) ≡ ((p || q) || r)
    either true q r = refl
    either false q r = refl

-- a number that is known after one was added was known before, or is that one
pub known_or : (x : ℕ) (v : List ℕ) (n : ℕ) → IsKnown x (with_number v n) → IsKnown x v ⊎ (x ≡ n)
known_or x v n k = one (list_any (eqb n) v) refl
  where
    last : (p q : Bool) → list_any (eqb x) v ≡ p → eqb x n ≡ q → (p || (q || false)) ≡ true → IsKnown x v ⊎ (x ≡ n)
    last true q i j e = inl i
    last false true i j e = inr (grind (arith, nat_tests, j))
    last false false i j e = absurd cc

    one : (t : Bool) → list_any (eqb n) v ≡ t → IsKnown x v ⊎ (x ≡ n)
    one true i = inl (let h : IsKnown x v = rw i at k in h)
    one false i = let h : list_any (eqb x) (v ++ n ∷ []) ≡ true = rw i at k in last (list_any (eqb x) v) (eqb x n) refl refl (sym (any_append x v (n ∷ [])) ∙ h)

-- a known number stays known where one is added
pub known_more : (x : ℕ) (v : List ℕ) (n : ℕ) → IsKnown x v → IsKnown x (with_number v n)
known_more x v n k = one (list_any (eqb n) v) refl
  where
    one : (t : Bool) → list_any (eqb n) v ≡ t → IsKnown x (with_number v n)
    one true i = rw i k
    one false i = rw i (any_append x v (n ∷ []) ∙ ap (λ (b : Bool). b || list_any (eqb x) (n ∷ [])) k)

-- a number that was added is known
pub known_new : (v : List ℕ) (n : ℕ) → IsKnown n (with_number v n)
known_new v n = one (list_any (eqb n) v) refl
  where
    itself : eqb n n ≡ true
    itself = grind (arith, nat_tests)

    one : (t : Bool) → list_any (eqb n) v ≡ t → IsKnown n (with_number v n)
    one true i = rw i i
    one false i = rw i (any_append n v (n ∷ []) ∙ rw (i, itself) refl)

-- a known number stays known where nodes are added
pub all_more : (x : ℕ) (v : List ℕ) (nodes : List NodeNo) → IsKnown x v → IsKnown x (with_all v nodes)
all_more x v [] k = k
all_more x v (n ∷ nodes) k = all_more x (with_number v n.0) nodes (known_more x v n.0 k)

-- a node that was added is known
pub all_new : (x : ℕ) (v : List ℕ) (nodes : List NodeNo) → IsIn x nodes → IsKnown x (with_all v nodes)
all_new x v [] i = absurd i
all_new x v (n ∷ nodes) (inl same) = all_more x (with_number v n.0) nodes (subst (λ (y : ℕ). IsKnown y (with_number v n.0)) (sym same) (known_new v n.0))
all_new x v (n ∷ nodes) (inr i) = all_new x (with_number v n.0) nodes i

-- a number that is known after nodes were added was known before, or is one of them
pub all_or : (x : ℕ) (v : List ℕ) (nodes : List NodeNo) → IsKnown x (with_all v nodes) → IsKnown x v ⊎ IsIn x nodes
all_or x v [] k = inl k
all_or x v (n ∷ nodes) k = one (all_or x (with_number v n.0) nodes k)
  where
    two : IsKnown x v ⊎ (x ≡ n.0) → IsKnown x v ⊎ IsIn x (n ∷ nodes)
    two (inl h) = inl h
    two (inr h) = inr (inl h)

    one : IsKnown x (with_number v n.0) ⊎ IsIn x nodes → IsKnown x v ⊎ IsIn x (n ∷ nodes)
    one (inl h) = two (known_or x v n.0 h)
    one (inr h) = inr (inr h)

-- where the test finds all of these nodes, each is known
pub all_known : (v : List ℕ) (nodes : List NodeNo) → list_all (λ node. list_any (eqb node.0) v) nodes ≡ true → (x : ℕ) → IsIn x nodes → IsKnown x v
all_known v [] all x i = absurd i
all_known v (n ∷ nodes) all x i = one (list_any (eqb n.0) v) refl all (λ more j. all_known v nodes more x j) i
  where
    one : (p : Bool) → list_any (eqb n.0) v ≡ p → (p && list_all (λ node. list_any (eqb node.0) v) nodes) ≡ true
        → (list_all (λ node. list_any (eqb node.0) v) nodes ≡ true → IsIn x nodes → IsKnown x v) → (x ≡ n.0) ⊎ IsIn x nodes → IsKnown x v
    one false own e more i = absurd cc
    one true own e more (inl same) = subst (λ (m : ℕ). IsKnown m v) (sym same) own
    one true own e more (inr j) = more e j

-- ---- places stay

-- a number keeps its place before others
pub place_append : (a b : List ℕ) (i x : ℕ) → slice_get a i ≡ Some x → slice_get (a ++ b) i ≡ Some x
place_append [] b i x e = absurd cc
place_append (y ∷ a) b zero x e = e
place_append (y ∷ a) b (suc i) x e = place_append a b i x e

-- a number keeps its place where one is added
pub place_number : (v : List ℕ) (n i x : ℕ) → slice_get v i ≡ Some x → slice_get (with_number v n) i ≡ Some x
place_number v n i x e = one (list_any (eqb n) v) refl
  where
    one : (t : Bool) → list_any (eqb n) v ≡ t → slice_get (with_number v n) i ≡ Some x
    one true j = rw j e
    one false j = rw j (place_append v (n ∷ []) i x e)

-- a number keeps its place where nodes are added
pub place_all : (v : List ℕ) (nodes : List NodeNo) (i x : ℕ) → slice_get v i ≡ Some x → slice_get (with_all v nodes) i ≡ Some x
place_all v [] i x e = e
place_all v (n ∷ nodes) i x e = place_all (with_number v n.0) nodes i x (place_number v n.0 i x e)

-- a place of a number
pub record Stands (v : List ℕ) (x : ℕ) : Type 0 where
  pub place : ℕ
  pub is : slice_get v place ≡ Some x
  pub within : place < length v

-- a known number has a place
pub known_place : (v : List ℕ) (x : ℕ) → IsKnown x v → Stands v x
known_place [] x k = absurd cc
known_place (y ∷ v) x k = one (eqb x y) refl (known_place v x)
  where
    later : Stands v x → Stands (y ∷ v) x
    later s = record { place = suc s.place; is = s.is; within = omega (arith, s.within) }

    one : (t : Bool) → eqb x y ≡ t → (IsKnown x v → Stands v x) → Stands (y ∷ v) x
    one true e more = let same : x ≡ y = grind (arith, nat_tests, e) in record { place = 0; is = ap Some (sym same); within = omega arith }
    one false e more = later (more (let h : IsKnown x v = rw e at k in h))

-- the number at a place is known
pub place_known : (v : List ℕ) (i x : ℕ) → slice_get v i ≡ Some x → IsKnown x v
place_known [] i x e = absurd cc
place_known (y ∷ v) zero x e = let same : y ≡ x = cc in let itself : eqb x y ≡ true = grind (arith, nat_tests, same) in rw itself refl
place_known (y ∷ v) (suc i) x e = one (eqb x y) (place_known v i x e)
  where
    one : (t : Bool) → IsKnown x v → (t || list_any (eqb x) v) ≡ true
    one true k = refl
    one false k = k

-- each place within numbers has one
pub at_place : (v : List ℕ) (i : ℕ) → i < length v → (x : ℕ) × (slice_get v i ≡ Some x)
at_place [] i lt = absurd (omega (arith, lt))
at_place (y ∷ v) zero lt = (y, refl)
at_place (y ∷ v) (suc i) lt = at_place v i (omega (arith, lt))
