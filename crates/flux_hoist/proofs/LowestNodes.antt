-- Tables of lowest-numbered nodes: what is looked for in them, and how they are filled.
use Rattle.std.proofs.Common.{◌≡◌, ◌↔◌, ◌<◌, ◌≤◌, ◌+◌, ℕ, Bool, true, false, ltb, cond, ◌⊎◌, inl, inr, List, [], ◌∷◌, ◌++◌, length, get_or, drop, slice_get, slice_set, Option, Some, None, refl, sym, ap, subst, ◌∙◌, arith}
use Rattle.std.specs.Bool.{IsTrue, then_some}
use Rattle.std.specs.List.{Contains, fold, flat_map}
use Rattle.std.proofs.lemmas.Bool.Decides.{nat_tests}
use Rattle.std.proofs.lemmas.Option.{slice_get-get_or}
use Rattle.std.proofs.lemmas.List.Sums.{fold-append}
use Rattle.flux_model.specs.declared.programs.Hold.{Hold}
use Rattle.flux_model.specs.declared.programs.Node.{Node}
use Rattle.flux_model.specs.declared.programs.NodeNo.{NodeNo}
use Rattle.flux_model.specs.declared.programs.Case.{Case}
use Rattle.flux_model.specs.Leading.{leads_to, leads_in, numbers_of}
use Rattle.flux_model.specs.Children.{IsIn}
use Rattle.flux_model.specs.Ordering.{IsOrder}
use Rattle.flux_model.specs.Locks.{declared_on, HasAtLeast}
use Rattle.flux_model.proofs.RisingHolds.{contains_none}
use Rattle.flux_hoist.specs.steps.Reaching.{IsPath}
use Rattle.flux_hoist.specs.steps.Lowest.{lower, node_at, lowest_among, IsLowest, Finds, AreLowest}
use Rattle.flux_hoist.proofs.Filled as filling
use Rattle.flux_hoist.proofs.Reached.{past_path, past_own}

-- ---- the members of cases, and what comes after them

pub among_cases : (table : List (Option NodeNo)) (first : Option NodeNo) (cases : List Case)
    → fold (λ found case. lowest_among table found case.members) first cases ≡ lowest_among table first (flat_map (λ case. case.members) cases)
among_cases table first [] = refl
among_cases table first (case ∷ cases) =
    among_cases table (lowest_among table first case.members) cases
    ∙ sym (fold-append (λ found node. lower found (node_at table node.0)) first case.members (flat_map (λ (c : Case). c.members) cases))

pub among_both : (table : List (Option NodeNo)) (first : Option NodeNo) (xs ys : List NodeNo) → lowest_among table (lowest_among table first xs) ys ≡ lowest_among table first (xs ++ ys)
among_both table first xs ys = sym (fold-append (λ found node. lower found (node_at table node.0)) first xs ys)

-- ---- the lowest of two, and of many

-- of what holds just as well
pub lowest_like : (P Q : ℕ → Type 0) (found : Option NodeNo) → ((n : ℕ) → P n → Q n) → ((n : ℕ) → Q n → P n) → IsLowest P found → IsLowest Q found
lowest_like P Q None to from is = λ n q. is n (from n q)
lowest_like P Q (Some node) to from is = (to node.0 is.0, λ n q. is.1 n (from n q))

lower_is : (P Q : ℕ → Type 0) (a b : Option NodeNo) → IsLowest P a → IsLowest Q b → IsLowest (λ n. P n ⊎ Q n) (lower a b)
lower_is P Q None None p q = λ n either. elim either [ inl x ↦ p n x | inr y ↦ q n y ]
lower_is P Q None (Some b) p q = (inr q.0, λ n either. elim either [ inl x ↦ absurd (p n x) | inr y ↦ q.1 n y ])
lower_is P Q (Some a) None p q = (inl p.0, λ n either. elim either [ inl x ↦ p.1 n x | inr y ↦ absurd (q n y) ])
lower_is P Q (Some a) (Some b) p q = one (ltb b.0 a.0) refl
  where
    one : (t : Bool) → ltb b.0 a.0 ≡ t → IsLowest (λ n. P n ⊎ Q n) (Some (cond t b a))
    one true e = (inr q.0, λ n either. elim either [ inl x ↦ let low = p.1 n x in grind (arith, nat_tests, e, low) | inr y ↦ q.1 n y ])
    one false e = (inl p.0, λ n either. elim either [ inl x ↦ p.1 n x | inr y ↦ let low = q.1 n y in grind (arith, nat_tests, e, low) ])

-- of some nodes that have theirs in a table one has this
pub record IsAmong (Has : ℕ → ℕ → Type 0) (nodes : List NodeNo) (n : ℕ) : Type 0 where
  pub node : ℕ
  pub is : IsIn node nodes
  pub has : Has node n

pub among_is : (Has : ℕ → ℕ → Type 0) (table : List (Option NodeNo)) (P : ℕ → Type 0) (first : Option NodeNo) (nodes : List NodeNo) → IsLowest P first
    → ((node : ℕ) → IsIn node nodes → IsLowest (Has node) (node_at table node)) → IsLowest (λ n. P n ⊎ IsAmong Has nodes n) (lowest_among table first nodes)
among_is Has table P first [] is each = lowest_like P (λ n. P n ⊎ IsAmong Has [] n) first (λ n p. inl p) (λ n either. elim either [ inl p ↦ p | inr a ↦ absurd a.is ]) is
among_is Has table P first (node ∷ nodes) is each =
    lowest_like _ (λ n. P n ⊎ IsAmong Has (node ∷ nodes) n) (lowest_among table (lower first (node_at table node.0)) nodes) to from
    (among_is Has table (λ n. P n ⊎ Has node.0 n) (lower first (node_at table node.0)) nodes (lower_is P (Has node.0) first (node_at table node.0) is (each node.0 (inl refl))) (λ other i. each other (inr i)))
  where
    to : (n : ℕ) → (P n ⊎ Has node.0 n) ⊎ IsAmong Has nodes n → P n ⊎ IsAmong Has (node ∷ nodes) n
    to n (inl (inl p)) = inl p
    to n (inl (inr h)) = inr (record { node = node.0; is = inl refl; has = h })
    to n (inr a) = inr (record { node = a.node; is = inr a.is; has = a.has })

    from : (n : ℕ) → P n ⊎ IsAmong Has (node ∷ nodes) n → (P n ⊎ Has node.0 n) ⊎ IsAmong Has nodes n
    from n (inl p) = inl (inl p)
    from n (inr a) = here a.node a.is a.has
      where
        here : (m : ℕ) → (m ≡ node.0) ⊎ IsIn m nodes → Has m n → (P n ⊎ Has node.0 n) ⊎ IsAmong Has nodes n
        here m (inl same) h = inl (inr (subst (λ (k : ℕ). Has k n) same h))
        here m (inr i) h = inr (record { node = m; is = i; has = h })

-- ---- what nodes lead on to

-- the node of a number declares the class in at least this mode
abbrev pub DeclaresIt : List Node → Hold → ℕ → ℕ → Type 0
DeclaresIt nodes hold number n = (n ≡ number) × HasAtLeast (declared_on (slice_get nodes number)) hold

pub lowest_own : (nodes : List Node) (hold : Hold) (number : NodeNo) (covered : Bool) → IsTrue covered ↔ HasAtLeast (declared_on (slice_get nodes number.0)) hold
    → IsLowest (DeclaresIt nodes hold number.0) (then_some covered number)
lowest_own nodes hold number true tells = ((refl, tells.0 refl), λ n is. let same = is.0 in omega (arith, same))
lowest_own nodes hold number false tells = λ n is. let e = tells.1 is.1 in absurd cc

module _ (nodes : List Node) (hold : Hold) where
  abbrev Has : ℕ → Option NodeNo → Type 0
  Has number found = IsLowest (Finds nodes hold number) found

  -- what a node declares, and what those find that it leads to, is what it finds
  finds_all : (number n : ℕ) → DeclaresIt nodes hold number n ⊎ IsAmong (Finds nodes hold) (leads_in nodes number) n → Finds nodes hold number n
  finds_all number n (inl (same, declares)) = record { path = []; way = sym same; declares = subst (λ (k : ℕ). HasAtLeast (declared_on (slice_get nodes k)) hold) (sym same) declares }
  finds_all number n (inr a) = let f = a.has in record { path = a.node ∷ f.path; way = (a.is, f.way); declares = f.declares }

  all_found : (number n : ℕ) → Finds nodes hold number n → DeclaresIt nodes hold number n ⊎ IsAmong (Finds nodes hold) (leads_in nodes number) n
  all_found number n f = on f.path f.way
    where
      on : (path : List ℕ) → IsPath nodes number path n → DeclaresIt nodes hold number n ⊎ IsAmong (Finds nodes hold) (leads_in nodes number) n
      on [] same = inl (sym same, subst (λ (k : ℕ). HasAtLeast (declared_on (slice_get nodes k)) hold) (sym same) f.declares)
      on (next ∷ path) (is, way) = inr (record { node = next; is = is; has = record { path = path; way = way; declares = f.declares } })

  lowest_found : (table : List (Option NodeNo)) (number : ℕ) (first : Option NodeNo) → IsLowest (DeclaresIt nodes hold number) first
      → ((led : ℕ) → IsIn led (leads_in nodes number) → Has led (node_at table led)) → Has number (lowest_among table first (leads_in nodes number))
  lowest_found table number first is known =
      lowest_like _ (Finds nodes hold number) (lowest_among table first (leads_in nodes number)) (finds_all number) (all_found number)
      (among_is (Finds nodes hold) table (DeclaresIt nodes hold number) first (leads_in nodes number) is known)

  past_found : (number : ℕ) → length nodes ≤ number → Has number None
  past_found number le = λ n f.
      let more = subst (λ (k : ℕ). HasAtLeast (declared_on (slice_get nodes k)) hold) (sym (past_path nodes number le n f.path f.way)) f.declares in
      contains_none _ (subst (λ (hs : List Hold). Contains hs (record { class = hold.class; mode = more.mode })) (past_own nodes number le) more.has)

  -- ---- along an order

  abbrev pub IsFilled : List NodeNo → List NodeNo → List (Option NodeNo) → Type 0
  IsFilled order rest table = filling.IsFilled nodes None Has order rest table

  -- by a read of the order and of the nodes
  pub lowest_step : (order : List NodeNo) (i : ℕ) (d : NodeNo) (node : Node) (table : List (Option NodeNo)) (first found : Option NodeNo) → i < length order → IsFilled order (drop i order) table
      → node ≡ get_or nodes (get_or order i d).0 node → IsLowest (DeclaresIt nodes hold (get_or order i d).0) first → found ≡ lowest_among table first (leads_to node)
      → IsFilled order (drop (i + 1) order) (slice_set table (get_or order i d).0 found)
  lowest_step order i d node table first found lt f read is same =
      filling.filled_step nodes None Has order i d table found lt f
      (λ known. subst (Has (get_or order i d).0) (sym own_found) (lowest_found table (get_or order i d).0 first is known))
    where
      at : slice_get nodes (get_or order i d).0 ≡ Some node
      at = slice_get-get_or nodes (get_or order i d).0 node (filling.filled_within nodes None Has order i d table lt f) ∙ ap Some (sym read)

      own_found : found ≡ lowest_among table first (leads_in nodes (get_or order i d).0)
      own_found = same ∙ ap (λ (n : Option Node). lowest_among table first (numbers_of leads_to n)) (sym at)

  pub lowest_end : (order : List NodeNo) (i : ℕ) (table : List (Option NodeNo)) → IsOrder nodes order → length order ≤ i → IsFilled order (drop i order) table → AreLowest nodes hold table
  lowest_end order i table is le f = filling.filled_end nodes None Has order i table is le f past_found
