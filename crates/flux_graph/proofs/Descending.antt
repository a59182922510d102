-- What is below a node is visited on the way down an order, and then given in rising order.
use Rattle.std.proofs.Common.{◌≡◌, ◌<◌, ◌+◌, ◌∙◌, append_assoc, drop, reverse, ℕ, zero, suc, true, false, Bool, ◌⊎◌, inl, inr, List, [], ◌∷◌, ◌++◌, length, get_or, Some, Result, Ok, Err, IfOk, refl, sym, ap, subst, eqb, arith}
use Rattle.std.specs.List.{list_any, slice_get}
use Rattle.std.proofs.Math.Nat.{eq-or-lt_of_le}
use Rattle.std.proofs.lemmas.List.{append-nil, reverse-append, at_drop_more}
use Rattle.std.proofs.lemmas.Bool.Decides.{nat_tests}
use Rattle.flux_model.specs.declared.programs.NodeNo.{NodeNo}
use Rattle.flux_model.specs.declared.programs.Node.{Node}
use Rattle.flux_model.specs.declared.programs.Program.{Program}
use Rattle.flux_model.specs.Leading.{members_of, numbers_of, leads_in}
use Rattle.flux_model.specs.Numbered.{IsNumbered}
use Rattle.flux_model.specs.Children.{IsIn, members, IsBelow}
use Rattle.flux_model.specs.Ordering.{ComeAfter, IsOrder}
use Rattle.flux_model.proofs.NodeLists.{in_front, in_behind, in_either}
use Rattle.flux_model.proofs.LeadingLemmas.{leads-within}
use Rattle.flux_model.proofs.BelowLemmas.{below-member, below-led, below-by_leading, below-within}
use Rattle.flux_graph.specs.Below.{IsRising, AreBelow}
use Rattle.flux_model.specs.Visits.{IsKnown, with_all}
use Rattle.flux_graph.specs.steps.Descending.{LeadDown, IsOnTheWay, Has, among}
use Rattle.flux_model.proofs.Visiting.{all_more, all_new, all_or}
use Rattle.flux_graph.proofs.Moves.{not_known}

-- ---- an order from its end

in_reverse : (x : ℕ) (order : List NodeNo) → IsIn x order → IsIn x (reverse order)
in_reverse x [] is = absurd is
in_reverse x (n ∷ order) (inl e) = subst (IsIn x) (sym (reverse-append (n ∷ []) order)) (in_behind x (reverse order) (n ∷ []) (inl e))
in_reverse x (n ∷ order) (inr i) = subst (IsIn x) (sym (reverse-append (n ∷ []) order)) (in_front x (reverse order) (n ∷ []) (in_reverse x order i))

leads_down : (nodes : List Node) (before order : List NodeNo) → ComeAfter nodes before order → LeadDown nodes before → LeadDown nodes (reverse order ++ before)
leads_down nodes before [] after down = down
leads_down nodes before (n ∷ order) (low, new, leads, after) down = subst (LeadDown nodes) same (leads_down nodes (n ∷ before) order after (leads, down))
  where
    same : reverse order ++ n ∷ before ≡ reverse (n ∷ order) ++ before
    same = sym (rw (reverse-append (n ∷ []) order) (append_assoc (reverse order) (n ∷ []) before))

-- ---- on the way down

-- the members of a node have been visited
pub on_the_way_first : (p : Program) (top : ℕ) (start : Node) (order : List NodeNo) → slice_get p.nodes top ≡ Some start → IsOrder p.nodes order → IsOnTheWay p top (with_all [] (members_of start.body)) (reverse order)
on_the_way_first p top start order at is = record {
  down = subst (LeadDown p.nodes) (append-nil (reverse order)) (leads_down p.nodes [] order is.after tt);
  each = λ x known. below-member p top x (own x (all_or x [] (members_of start.body) known));
  begun = λ x i. all_new x [] (members_of start.body) (subst (IsIn x) same i);
  closed = λ from led known none i. absurd (none (in_reverse from order (is.each from (leads-within p.nodes from led i))));
}
  where
    same : members p top ≡ members_of start.body
    same = ap (numbers_of (λ node. members_of node.body)) at

    own : (x : ℕ) → IsKnown x [] ⊎ IsIn x (members_of start.body) → IsIn x (members p top)
    own x (inl known) = absurd (not_known x [] refl known)
    own x (inr i) = subst (IsIn x) (sym same) i

-- a node that wasn't visited is passed over
pub on_the_way_past : (p : Program) (top : ℕ) (visits : List ℕ) (node : NodeNo) (rest : List NodeNo) → IsOnTheWay p top visits (node ∷ rest) → list_any (eqb node.0) visits ≡ false → IsOnTheWay p top visits rest
on_the_way_past p top visits node rest way unknown = record {
  down = way.down.1;
  each = way.each;
  begun = way.begun;
  closed = λ from led known none i. way.closed from led known (other from known none) i;
}
  where
    other : (from : ℕ) → IsKnown from visits → (IsIn from rest → ⊥) → (from ≡ node.0) ⊎ IsIn from rest → ⊥
    other from known none (inl e) = not_known node.0 visits unknown (subst (λ (n : ℕ). IsKnown n visits) e known)
    other from known none (inr i) = none i

-- all that a visited node leads to is visited
pub on_the_way_down : (p : Program) (top : ℕ) (visits : List ℕ) (node : NodeNo) (rest : List NodeNo) → IsOnTheWay p top visits (node ∷ rest) → IsKnown node.0 visits → IsOnTheWay p top (with_all visits (leads_in p.nodes node.0)) rest
on_the_way_down p top visits node rest way known = record {
  down = way.down.1;
  each = λ x k. below x (all_or x visits leads k);
  begun = λ x i. all_more x visits leads (way.begun x i);
  closed = λ from led k none i. closes from led none i (all_or from visits leads k);
}
  where
    leads : List NodeNo
    leads = leads_in p.nodes node.0

    below : (x : ℕ) → IsKnown x visits ⊎ IsIn x (leads_in p.nodes node.0) → IsBelow p top x
    below x (inl k) = way.each x k
    below x (inr i) = below-led p top node.0 x (way.each node.0 known) i

    -- what was visited before is this node, or isn't still to come
    visited : (from led : ℕ) → (IsIn from rest → ⊥) → IsIn led (leads_in p.nodes from) → IsKnown from visits → (t : Bool) → eqb from node.0 ≡ t → IsKnown led (with_all visits (leads_in p.nodes node.0))
    visited from led none i k true e =
        let same : from ≡ node.0 = grind (arith, nat_tests, e) in
        all_new led visits leads (subst (λ (n : ℕ). IsIn led (leads_in p.nodes n)) same i)
    visited from led none i k false e = all_more led visits leads (way.closed from led k other i)
      where
        other : (from ≡ node.0) ⊎ IsIn from rest → ⊥
        other (inl same) = grind (arith, nat_tests, e, same)
        other (inr j) = none j

    closes : (from led : ℕ) → (IsIn from rest → ⊥) → IsIn led (leads_in p.nodes from) → IsKnown from visits ⊎ IsIn from (leads_in p.nodes node.0) → IsKnown led (with_all visits (leads_in p.nodes node.0))
    closes from led none i (inl k) = visited from led none i k (eqb from node.0) refl
    closes from led none i (inr j) = absurd (none (way.down.0 from j))

-- at the end exactly what is below the node has been visited
pub on_the_way_last : (p : Program) (top : ℕ) (visits : List ℕ) (ys : List NodeNo) (n : ℕ) → n ≡ length ys → IsOnTheWay p top visits (drop n ys) → Has p top visits
on_the_way_last p top visits ys n same way = ended (subst (IsOnTheWay p top visits) (rw same (drop_all ys)) way)
  where
    drop_all : (ys : List NodeNo) → drop (length ys) ys ≡ []
    drop_all [] = refl
    drop_all (y ∷ ys) = drop_all ys

    ended : IsOnTheWay p top visits [] → Has p top visits
    ended way = record {
      each = way.each;
      all = below-by_leading p top (λ x. IsKnown x visits) way.begun (λ x y known i. way.closed x y known (λ j. j) i);
    }

-- ---- a turn

-- the next node is the first of those still to come
pub next_of : (p : Program) (top : ℕ) (visits : List ℕ) (ys : List NodeNo) (n : ℕ) (node : NodeNo) → (n < length ys) × (node ≡ get_or ys n node) → IsOnTheWay p top visits (drop n ys) → IsOnTheWay p top visits (node ∷ drop (n + 1) ys)
next_of p top visits ys n node (lt, at) way = subst (IsOnTheWay p top visits) (at_drop_more (λ (l : List NodeNo). l) ys n node lt ∙ ap (λ (m : NodeNo). m ∷ drop (n + 1) ys) (sym at)) way

-- ---- in rising order

among_known : (v : List ℕ) (count x : ℕ) → IsIn x (among v count) → IsKnown x v × x < count
among_known v zero x i = absurd i
among_known v (suc n) x i = one (list_any (eqb n) v) refl (λ j. among_known v n x j)
  where
    wider : IsKnown x v × x < n → IsKnown x v × x < suc n
    wider (k, lt) = (k, omega (arith, lt))

    split : list_any (eqb n) v ≡ true → (IsIn x (among v n) → IsKnown x v × x < n) → IsIn x (among v n) ⊎ IsIn x (record { 0 = n } ∷ []) → IsKnown x v × x < suc n
    split e more (inl j) = wider (more j)
    split e more (inr (inl s)) = (subst (λ (m : ℕ). IsKnown m v) (sym s) e, omega (arith, s))
    split e more (inr (inr j)) = absurd j

    one : (t : Bool) → list_any (eqb n) v ≡ t → (IsIn x (among v n) → IsKnown x v × x < n) → IsKnown x v × x < suc n
    one true e more = split e more (in_either x (among v n) (record { 0 = n } ∷ []) (let h : IsIn x (among v n ++ record { 0 = n } ∷ []) = rw e at i in h))
    one false e more = wider (more (let h : IsIn x (among v n) = rw e at i in h))

known_among : (v : List ℕ) (count x : ℕ) → IsKnown x v → x < count → IsIn x (among v count)
known_among v zero x k lt = absurd (omega (arith, lt))
known_among v (suc n) x k lt = one (list_any (eqb n) v) refl (eq-or-lt_of_le (omega (arith, lt))) (λ l. known_among v n x k l)
  where
    one : (t : Bool) → list_any (eqb n) v ≡ t → (x ≡ n) ⊎ (x < n) → (x < n → IsIn x (among v n)) → IsIn x (among v (suc n))
    one true e (inl s) more = rw e (in_behind x (among v n) (record { 0 = n } ∷ []) (inl s))
    one true e (inr l) more = rw e (in_front x (among v n) (record { 0 = n } ∷ []) (more l))
    one false e (inl s) more = absurd (not_known n v e (subst (λ (m : ℕ). IsKnown m v) s k))
    one false e (inr l) more = rw e (more l)

rising_last : (a : List NodeNo) (n : ℕ) → IsRising a → ((x : ℕ) → IsIn x a → x < n) → IsRising (a ++ record { 0 = n } ∷ [])
rising_last [] n r all = ((λ x i. absurd i), tt)
rising_last (m ∷ a) n (own, r) all = ((λ x i. from x (in_either x a (record { 0 = n } ∷ []) i)), rising_last a n r (λ x i. all x (inr i)))
  where
    from : (x : ℕ) → IsIn x a ⊎ IsIn x (record { 0 = n } ∷ []) → m.0 < x
    from x (inl i) = own x i
    from x (inr (inl e)) = subst (λ (k : ℕ). m.0 < k) (sym e) (all m.0 (inl refl))
    from x (inr (inr i)) = absurd i

among_rising : (v : List ℕ) (count : ℕ) → IsRising (among v count)
among_rising v zero = tt
among_rising v (suc n) = one (list_any (eqb n) v) refl (among_rising v n)
  where
    one : (t : Bool) → list_any (eqb n) v ≡ t → IsRising (among v n) → IsRising (among v (suc n))
    one true e r = rw e (rising_last (among v n) n r (λ x i. (among_known v n x i).1))
    one false e r = rw e r

-- ---- the whole

-- what has been visited, in rising order, is what is below the node
pub are_below : (p : Program) (top : ℕ) (visits : List ℕ) → IsNumbered p → Has p top visits → AreBelow p top (among visits (length p.nodes))
are_below p top visits numbered has = record {
  each = λ x i. has.each x (among_known visits (length p.nodes) x i).0;
  all = λ x below. known_among visits (length p.nodes) x (has.all x below) (below-within p top x numbered below);
  rising = among_rising visits (length p.nodes);
}

-- so is an answer that is this list
pub answered : {E : Type 0} (r : Result (List NodeNo) E) (nodes : List NodeNo) (p : Program) (top : ℕ) → IfOk r (λ given. given ≡ nodes) → AreBelow p top nodes → IfOk r (AreBelow p top)
answered (Ok given) nodes p top same below = subst (AreBelow p top) (sym same) below
answered (Err e) nodes p top same below = same
