-- What is hoisted of what nodes reach is the program's locks.
use Rattle.std.proofs.Common.{◌≡◌, ◌≤◌, ℕ, zero, suc, true, inl, inr, List, [], ◌∷◌, ◌++◌, length, slice_get, Option, Some, None, refl, sym, ap, subst, arith}
use Rattle.std.specs.List.{Contains}
use Rattle.std.specs.Option.{unwrap_or}
use Rattle.std.proofs.lemmas.Option.{slice_get_past, slice_get_within}
use Rattle.flux_values.specs.declared.answers.Mode.{Mode}
use Rattle.flux_model.specs.declared.programs.ClassNo.{ClassNo}
use Rattle.flux_model.specs.declared.programs.Hold.{Hold}
use Rattle.flux_model.specs.declared.programs.Node.{Node}
use Rattle.flux_model.specs.declared.programs.Program.{Program}
use Rattle.flux_model.specs.Modes.{at_least}
use Rattle.flux_model.specs.Leading.{members_of, leads_in, numbers_of}
use Rattle.flux_model.specs.Children.{IsIn, IsBelow, members}
use Rattle.flux_model.specs.Locks.{declared, declared_on, HasClass, IsLocked, DeclaresHere, AreLocksOf, AreLocks, HasAtLeast}
use Rattle.flux_model.proofs.BelowLemmas.{below-member, below-led, below-by_leading}
use Rattle.flux_model.proofs.Hoisting.{at_least_on}
use Rattle.flux_model.proofs.RisingHolds.{contains_none, rising_once}
use Rattle.flux_hoist.specs.Sets.{held_by}
use Rattle.flux_hoist.specs.steps.Joining.{IsPassed, IsHoisted, held_by_all}
use Rattle.flux_hoist.specs.steps.Reaching.{IsPath, AreReached, AreHoisted}
use Rattle.flux_hoist.proofs.Joins.{in_some, in_all}

past_none : {X : Type 0} (xs : List X) (k : ℕ) → slice_get xs k ≡ None → length xs ≤ k
past_none [] k e = omega arith
past_none (x ∷ xs) zero e = absurd cc
past_none (x ∷ xs) (suc k) e = let le = past_none xs k e in omega (arith, le)

module _ (p : Program) where
  -- from a member over what is led to
  pub record IsUnder (top node : ℕ) : Type 0 where
    pub member : ℕ
    pub is_member : IsIn member (members p top)
    pub path : List ℕ
    pub way : IsPath p.nodes member path node

  path_then : (from : ℕ) (path : List ℕ) (mid to : ℕ) → IsPath p.nodes from path mid → IsIn to (leads_in p.nodes mid) → IsPath p.nodes from (path ++ to ∷ []) to
  path_then from [] mid to same is = (subst (λ (n : ℕ). IsIn to (leads_in p.nodes n)) (sym same) is, refl)
  path_then from (next ∷ path) mid to (led, way) is = (led, path_then next path mid to way is)

  pub under_below : (top node : ℕ) → IsBelow p top node → IsUnder top node
  under_below top node below = below-by_leading p top (IsUnder top)
      (λ x is. record { member = x; is_member = is; path = []; way = refl })
      (λ x y under is. record { member = under.member; is_member = under.is_member; path = under.path ++ y ∷ []; way = path_then under.member under.path x y under.way is })
      node below

  pub below_path : (top from : ℕ) (path : List ℕ) (to : ℕ) → IsBelow p top from → IsPath p.nodes from path to → IsBelow p top to
  below_path top from [] to below same = subst (IsBelow p top) same below
  below_path top from (next ∷ path) to below (is, way) = below_path top next path to (below-led p top from next below is) way

  module _ (table : List (List Hold)) (reached : AreReached p.nodes table) (number : ℕ) (holds : List Hold)
      (is : IsHoisted (declared p number) (held_by_all table (members p number)) holds) where
    -- what is declared below is in a member's set
    lifted : (other : ℕ) (h : Hold) → IsBelow p number other → Contains (declared p other) h → IsPassed (declared p number) h → HasAtLeast holds h
    lifted other h below declares passed =
        let under = under_below number other below in
        let first = (reached under.member).above h (record { to = other; path = under.path; way = under.way; declares = declares }) in
        let there = in_all table (members p number) under.member (record { class = h.class; mode = first.mode }) under.is_member first.has in
        let then = is.lifted (record { class = h.class; mode = first.mode }) there (record { past = passed.past; among = passed.among; least = passed.least }) in
        record { mode = then.mode; has = then.has; enough = at_least_on then.mode first.mode h.mode then.enough first.enough }

    -- what is in a member's set is declared below
    from_below : (h : Hold) → Contains (held_by_all table (members p number)) h → (other : ℕ) × IsBelow p number other × Contains (declared p other) h
    from_below h c =
        let found = in_some table (members p number) h c in
        let r = (reached found.0).only h found.2 in
        (r.to, below_path number found.0 r.path r.to (below-member p number found.0 found.1) r.way, r.declares)

    has : (class : ClassNo) → IsLocked p number class → HasClass holds class
    has class (inl (mode, declares)) =
        let more = is.has_own (record { class = class; mode = mode }) declares in (more.mode, more.has)
    has class (inr (below, past)) =
        let more = lifted below.node (record { class = class; mode = below.declares.0 }) below.below below.declares.1
        (record { past = record { class = past.past; mode = past.declares.0 }; among = past.declares.1; least = past.least }) in
        (more.mode, more.has)

    only : (h : Hold) → Contains holds h → IsLocked p number h.class
    only h c = elim (is.only h c) [
      | inl declares ↦ inl (h.mode, declares)
      | inr (below, passed) ↦
          let found = from_below h below in
          inr (
            record { node = found.0; below = found.1; declares = (h.mode, found.2) },
            record { past = passed.past.class; declares = (passed.past.mode, passed.among); least = passed.least },
          )
    ]

    passed_by : (h : Hold) → Contains holds h → IsPassed (declared p number) h
    passed_by h c = elim (is.only h c) [
      | inl declares ↦ record { past = h; among = declares; least = omega arith }
      | inr (below, passed) ↦ passed
    ]

    here : (h : Hold) → Contains holds h → DeclaresHere p number h
    here h c = elim (is.only h c) [
      | inl declares ↦ inl declares
      | inr (below, passed) ↦ inr (from_below h below)
    ]

    greatest : (h : Hold) → Contains holds h → (mode : Mode) → DeclaresHere p number (record { class = h.class; mode = mode }) → at_least h.mode mode ≡ true
    greatest h c mode declares = by (more declares)
      where
        other : Hold
        other = record { class = h.class; mode = mode }

        more : DeclaresHere p number (record { class = h.class; mode = mode }) → HasAtLeast holds (record { class = h.class; mode = mode })
        more (inl own) = is.has_own (record { class = h.class; mode = mode }) own
        more (inr (node, below, own)) =
            let passed = passed_by h c in
            lifted node (record { class = h.class; mode = mode }) below own (record { past = passed.past; among = passed.among; least = passed.least })

        by : HasAtLeast holds (record { class = h.class; mode = mode }) → at_least h.mode mode ≡ true
        by has_it =
            let same = rising_once holds is.rising h (record { class = h.class; mode = has_it.mode }) c has_it.has refl in
            subst (λ (x : Hold). at_least x.mode mode ≡ true) (sym same) has_it.enough

    pub locks_of : AreLocksOf p number holds
    locks_of = record {
      rising = is.rising;
      has = has;
      only = only;
      modes = λ h c. record { declares = here h c; greatest = greatest h c };
    }

  -- what is no node holds nothing
  nothing_locked : (number : ℕ) → slice_get p.nodes number ≡ None → AreLocksOf p number []
  nothing_locked number none = record {
    rising = λ low high first second lt a b. absurd cc;
    has = λ class locked. absurd (unlocked class locked);
    only = λ h c. absurd (contains_none h c);
    modes = λ h c. absurd (contains_none h c);
  }
    where
      undeclared : (h : Hold) → Contains (declared p number) h → ⊥
      undeclared h c = contains_none h (subst (λ (found : Option Node). Contains (declared_on found) h) none c)

      unlocked : (class : ClassNo) → IsLocked p number class → ⊥
      unlocked class (inl (mode, c)) = undeclared (record { class = class; mode = mode }) c
      unlocked class (inr (below, past)) = undeclared (record { class = past.past; mode = past.declares.0 }) past.declares.1

  at_place : (table sets : List (List Hold)) → AreReached p.nodes table → AreHoisted p.nodes table (length p.nodes) sets → (number : ℕ)
      → (found : Option Node) → slice_get p.nodes number ≡ found → AreLocksOf p number (held_by sets number)
  at_place table sets reached are number (Some node) e = locks_of table reached number (held_by sets number)
      (subst (λ (found : Option Node). IsHoisted (declared_on found) (held_by_all table (numbers_of (λ n. members_of n.body) found)) (held_by sets number)) (sym e)
      (are.each number node (slice_get_within p.nodes number node e) e))
  at_place table sets reached are number None e = subst (AreLocksOf p number) (sym nothing) (nothing_locked number e)
    where
      nothing : held_by sets number ≡ []
      nothing = ap (λ (found : Option (List Hold)). unwrap_or found [])
          (slice_get_past sets number (let many = are.many in let past = past_none p.nodes number e in omega (arith, many, past)))

  pub hoisted_locks : (table sets : List (List Hold)) → AreReached p.nodes table → AreHoisted p.nodes table (length p.nodes) sets → AreLocks p (held_by sets)
  hoisted_locks table sets reached are number = at_place table sets reached are number (slice_get p.nodes number) refl
