-- Where a search begins and ends, and why an order and a cycle can't both be.
use Rattle.std.proofs.Common.{◌≡◌, ◌<◌, ◌≤◌, ◌+◌, ◌-◌, ℕ, zero, suc, false, ◌⊎◌, inl, inr, List, [], ◌∷◌, ◌++◌, length, length-append, Option, Some, None, refl, sym, ap, subst, ◌∙◌, eqb, arith}
use Rattle.std.specs.List.{list_any, IsDistinct}
use Rattle.std.proofs.lemmas.Map.Steps.{length-le_from_distinct_below}
use Rattle.flux_model.specs.declared.programs.NodeNo.{NodeNo}
use Rattle.flux_model.specs.declared.programs.Node.{Node}
use Rattle.flux_model.specs.Leading.{leads_in}
use Rattle.flux_model.specs.Children.{IsIn}
use Rattle.flux_graph.specs.declared.steps.Step.{Step}
use Rattle.flux_graph.specs.declared.ordering.Search.{Search}
use Rattle.flux_model.specs.Visits.{IsKnown, with_number}
use Rattle.flux_model.specs.Ordering.{ComeAfter, AreDistinct, IsOrder, IsLed, HasCycle}
use Rattle.flux_graph.specs.steps.Searching.{enters, leaves_of, numbered}
use Rattle.flux_graph.specs.steps.Search.{LeadToNodes, HasStep, Covered, AreLed, Holds, IsBegun, IsNext, entered}
use Rattle.flux_graph.proofs.Moves.{node_entered}
use Rattle.std.proofs.Math.Nat.{eq-or-lt_of_le}
use Rattle.flux_model.proofs.LeadingLemmas.{leads_on-within}
use Rattle.flux_model.proofs.NodeLists.{in_front, in_behind, in_either}
use Rattle.flux_graph.proofs.Stepping as stepping

-- ---- where it begins

numbered_in : (count x : ℕ) → x < count → IsIn x (numbered count)
numbered_in zero x lt = absurd (omega (arith, lt))
numbered_in (suc n) x lt = from (eq-or-lt_of_le (omega (arith, lt))) (λ l. numbered_in n x l)
  where
    from : (x ≡ n) ⊎ (x < n) → (x < n → IsIn x (numbered n)) → IsIn x (numbered n ++ record { 0 = n } ∷ [])
    from (inl e) more = in_behind x (numbered n) (record { 0 = n } ∷ []) (inl e)
    from (inr l) more = in_front x (numbered n) (record { 0 = n } ∷ []) (more l)

numbered_below : (count x : ℕ) → IsIn x (numbered count) → x < count
numbered_below zero x i = absurd i
numbered_below (suc n) x i = from (in_either x (numbered n) (record { 0 = n } ∷ []) i) (λ j. numbered_below n x j)
  where
    from : IsIn x (numbered n) ⊎ IsIn x (record { 0 = n } ∷ []) → (IsIn x (numbered n) → x < n) → x < suc n
    from (inl j) less = omega (arith, less j)
    from (inr (inl e)) less = omega (arith, e)
    from (inr (inr j)) less = absurd j

led_roots : (nodes : List Node) (into : List NodeNo) → ((x : ℕ) → IsIn x into → x < length nodes) → AreLed nodes None (enters into)
led_roots nodes [] all = tt
led_roots nodes (n ∷ into) all = (all n.0 (inl refl), led_roots nodes into (λ x i. all x (inr i)))

-- nothing is among no numbers
pub none_known : (x : ℕ) → IsKnown x [] → ⊥
none_known x k = absurd cc

-- no numbers are distinct
pub none_twice : IsDistinct eqb []
unfolding IsDistinct
none_twice = tt

-- a search begins well
pub holds_first : (nodes : List Node) (s : Search) → IsBegun (length nodes) s → Holds nodes s
holds_first nodes s b = record {
  roots = λ x lt. inr (subst (HasStep x) (sym b.steps) (stepping.step_into x all (numbered_in (length nodes) x lt)));
  covered = subst (Covered nodes s.order) (sym b.steps) (stepping.covered_enters nodes s.order all);
  led = subst (AreLed nodes None) (sym b.steps) (led_roots nodes all (λ x i. numbered_below (length nodes) x i));
  leaves = subst AreDistinct (sym bare) tt;
  after = subst (ComeAfter nodes []) (sym b.order) tt;
  known = λ x k. absurd (none_known x (subst (IsKnown x) b.entered k));
  done = λ x k. absurd (none_known x (subst (IsKnown x) b.done k));
  ordered = λ x i. absurd (subst (IsIn x) b.order i);
  entered = λ x i. absurd (subst (IsIn x) bare i);
  apart = λ x i j. subst (IsIn x) b.order i;
  unique = subst (IsDistinct eqb) (sym b.entered) none_twice;
  within = λ x k. absurd (none_known x (subst (IsKnown x) b.entered k));
}
  where
    all : List NodeNo
    all = numbered (length nodes)

    bare : leaves_of s.steps ≡ []
    bare = ap leaves_of b.steps ∙ stepping.leaves_enters all

-- ---- where it ends

-- where no step is left, the order is one of all nodes
pub ordered_all : (nodes : List Node) (s : Search) → Holds nodes s → s.steps ≡ [] → IsOrder nodes s.order
ordered_all nodes s h e = record { each = λ x lt. from x (subst (λ (t : List Step). IsIn x s.order ⊎ HasStep x t) e (h.roots x lt)); after = h.after }
  where
    from : (x : ℕ) → IsIn x s.order ⊎ HasStep x [] → IsIn x s.order
    from x (inl i) = i
    from x (inr j) = absurd j

-- no more nodes are entered than there are
pub entered_few : (nodes : List Node) (s : Search) → Holds nodes s → length s.entered ≤ length nodes
entered_few nodes s h = length-le_from_distinct_below s.entered (length nodes) h.unique h.within

-- a new number makes one more
pub entered_grows : (v : List ℕ) (n : ℕ) → list_any (eqb n) v ≡ false → length (with_number v n) ≡ length v + 1
entered_grows v n e = rw e (length-append v (n ∷ []))

-- ---- an order and a cycle

stays : (nodes : List Node) (before : List NodeNo) (from : ℕ) (mid : List NodeNo) (back : NodeNo) → ((x y : ℕ) → IsIn x before → IsIn y (leads_in nodes x) → IsIn y before) → IsIn from before → IsLed nodes from (mid ++ back ∷ []) → IsIn back.0 before
stays nodes before from [] back closed i (led, l) = closed from back.0 i led
stays nodes before from (n ∷ mid) back closed i (led, l) = stays nodes before n.0 mid back closed (closed from n.0 i led) l

no_way : (nodes : List Node) (before order : List NodeNo) → ((x y : ℕ) → IsIn x before → IsIn y (leads_in nodes x) → IsIn y before) → ComeAfter nodes before order → (from : ℕ) → IsIn from order → (mid : List NodeNo) (back : NodeNo) → back.0 ≡ from → IsLed nodes from (mid ++ back ∷ []) → ⊥
no_way nodes before [] closed a from i mid back same l = i
no_way nodes before (n ∷ order) closed (lt, new, led, a) from (inr i) mid back same l = no_way nodes (n ∷ before) order more a from i mid back same l
  where
    more : (x y : ℕ) → IsIn x (n ∷ before) → IsIn y (leads_in nodes x) → IsIn y (n ∷ before)
    more x y (inl e) j = inr (led y (subst (λ (z : ℕ). IsIn y (leads_in nodes z)) e j))
    more x y (inr k) j = inr (closed x y k j)
no_way nodes before (n ∷ order) closed (lt, new, led, a) from (inl e) mid back same l = new (subst (λ (z : ℕ). IsIn z before) (same ∙ e) (ends mid l))
  where
    ends : (mid : List NodeNo) → IsLed nodes from (mid ++ back ∷ []) → IsIn back.0 before
    ends [] (j, r) = led back.0 (subst (λ (z : ℕ). IsIn back.0 (leads_in nodes z)) e j)
    ends (m ∷ mid) (j, r) = stays nodes before m.0 mid back closed (led m.0 (subst (λ (z : ℕ). IsIn m.0 (leads_in nodes z)) e j)) r

-- nodes that have an order have no cycle
pub no_cycle : (nodes : List Node) (order : List NodeNo) → IsOrder nodes order → HasCycle nodes → ⊥
no_cycle nodes order o (from, w) = no_way nodes [] order (λ x y i j. absurd i) o.after from (o.each from (leads_on-within nodes from from w)) w.between (record { 0 = from }) refl w.led

-- ---- a turn of the search

-- after a turn that enters a node, the search holds on
pub entered_next : (nodes : List Node) (old mid new : Search) (found : Option NodeNo) (node : NodeNo) → LeadToNodes nodes → IsNext nodes old mid found → found ≡ Some node → new ≡ entered nodes mid node → Holds nodes new
entered_next nodes old mid new found node all next e gives = from (subst (IsNext nodes old mid) e next)
  where
    from : IsNext nodes old mid (Some node) → Holds nodes new
    from (h, unknown, same) = subst (Holds nodes) (sym gives) (node_entered nodes mid node all h unknown)

-- after such a turn fewer nodes are left to be entered
pub entered_less : (nodes : List Node) (old mid new : Search) (found : Option NodeNo) (node : NodeNo) → LeadToNodes nodes → IsNext nodes old mid found → found ≡ Some node → new ≡ entered nodes mid node
    → length nodes - length new.entered < length nodes - length old.entered
entered_less nodes old mid new found node all next e gives = from (subst (IsNext nodes old mid) e next)
  where
    from : IsNext nodes old mid (Some node) → length nodes - length new.entered < length nodes - length old.entered
    from (h, unknown, same) =
        let now : length new.entered ≡ length mid.entered + 1 = ap (λ (s : Search). length s.entered) gives ∙ entered_grows mid.entered node.0 unknown in
        let was : length mid.entered ≡ length old.entered = ap length same in
        let few : length new.entered ≤ length nodes = entered_few nodes new (entered_next nodes old mid new found node all next e gives) in
        omega (arith, now, was, few)

-- after the last turn the order is one of all nodes
pub ordered_last : (nodes others : List Node) (old mid : Search) (found : Option NodeNo) → IsNext nodes old mid found → found ≡ None → nodes ≡ others → IsOrder others mid.order
ordered_last nodes others old mid found next e same = from (subst (IsNext nodes old mid) e next)
  where
    from : IsNext nodes old mid None → IsOrder others mid.order
    from (h, empty) = subst (λ (n : List Node). IsOrder n mid.order) same (ordered_all nodes mid h empty)
