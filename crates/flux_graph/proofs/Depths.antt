-- Where all nodes have an order, as many nested nodes as there are nodes are enough for a rule.
use Rattle.std.proofs.Common.{◌≡◌, ◌<◌, ◌≤◌, ◌+◌, ℕ, zero, suc, Bool, true, false, eqb, ◌⊎◌, inl, inr, List, [], ◌∷◌, length, map, Option, Some, None, refl, sym, ap, subst, ◌∙◌, arith}
use Rattle.std.specs.List.{list_any, slice_get, IsDistinct, AllByRecursion}
use Rattle.std.proofs.lemmas.Bool.Decides.{nat_tests}
use Rattle.std.proofs.lemmas.Map.Steps.{length-le_from_distinct_below}
use Rattle.std.proofs.lemmas.Option.{slice_get_within}
use Rattle.flux_model.specs.declared.programs.NodeNo.{NodeNo}
use Rattle.flux_model.specs.declared.programs.Node.{Node}
use Rattle.flux_model.specs.Children.{IsIn}
use Rattle.flux_model.specs.Nested.{Rule, for_node, nested, through, LooksDown}
use Rattle.flux_model.specs.Leading.{leads_in}
use Rattle.flux_model.specs.Ordering.{ComeAfter, IsOrder}

-- ---- an order is no longer than the nodes

abbrev numbers : List NodeNo → List ℕ
numbers nodes = map (λ node. node.0) nodes

apart : (x : ℕ) (nodes : List NodeNo) → (IsIn x nodes → ⊥) → AllByRecursion (λ y. eqb x y ≡ false) (numbers nodes)
apart x [] none = tt
apart x (n ∷ nodes) none = (grind (arith, nat_tests, λ (e : x ≡ n.0). none (inl e)), apart x nodes (λ i. none (inr i)))

-- the nodes so far are distinct, and below the count
record Few (count : ℕ) (before : List NodeNo) : Type 0 where
  distinct : IsDistinct eqb (numbers before)
  within : (x : ℕ) → list_any (eqb x) (numbers before) ≡ true → x < count

few_more : (nodes : List Node) (before order : List NodeNo) → ComeAfter nodes before order → Few (length nodes) before → length before + length order ≤ length nodes
unfolding IsDistinct
few_more nodes before [] come few =
    let le = length-le_from_distinct_below (numbers before) (length nodes) few.distinct few.within in
    omega (arith, le, count before)
  where
    count : (ns : List NodeNo) → length (numbers ns) ≡ length ns
    count [] = refl
    count (n ∷ ns) = ap suc (count ns)
few_more nodes before (node ∷ order) (below, new, leads, more) few =
    let le = few_more nodes (node ∷ before) order more (record {
      distinct = (apart node.0 before new, few.distinct);
      within = λ x k. one x (eqb x node.0) refl k;
    }) in omega (arith, le)
  where
    one : (x : ℕ) (t : Bool) → eqb x node.0 ≡ t → list_any (eqb x) (numbers (node ∷ before)) ≡ true → x < length nodes
    one x true e k = let same : x ≡ node.0 = grind (arith, nat_tests, e) in omega (arith, same, below)
    one x false e k = few.within x (let h : list_any (eqb x) (numbers before) ≡ true = rw e at k in h)

none_yet : (count : ℕ) → Few count []
unfolding IsDistinct
none_yet count = record { distinct = tt; within = λ x k. absurd cc }

-- an order lists no more than the nodes
pub order-within : (nodes : List Node) (order : List NodeNo) → IsOrder nodes order → length order ≤ length nodes
order-within nodes order is = let few = few_more nodes [] order is.after (none_yet (length nodes)) in omega (arith, few)

-- ---- a rule

module _ {X : Type 0} (none : X) (rule : Rule X) (looks : LooksDown rule) (nodes : List Node) where
  -- through so many nested nodes and through more these have the same
  abbrev Settled : ℕ → List NodeNo → Type 0
  Settled depth known = (number : ℕ) → IsIn number known → (d e : ℕ) → depth ≤ d → depth ≤ e → nested none rule nodes d number ≡ nested none rule nodes e number

  settled_node : (depth : ℕ) (before : List NodeNo) (number : ℕ) → Settled depth before → ((led : ℕ) → IsIn led (leads_in nodes number) → IsIn led before)
      → (d e : ℕ) → depth ≤ d → depth ≤ e → (found : Option Node) → slice_get nodes number ≡ found
      → for_node none (rule (nested none rule nodes d) number) found ≡ for_node none (rule (nested none rule nodes e) number) found
  settled_node depth before number settled leads d e le more None at = refl
  settled_node depth before number settled leads d e le more (Some node) at =
      looks (nested none rule nodes d) (nested none rule nodes e) number node (λ led is. settled led (leads led (rw at is)) d e le more)

  settled_all : (depth : ℕ) (before order : List NodeNo) → ComeAfter nodes before order → Settled depth before → (number : ℕ) → IsIn number order ⊎ IsIn number before
      → (d e : ℕ) → depth + length order ≤ d → depth + length order ≤ e → nested none rule nodes d number ≡ nested none rule nodes e number
  settled_all depth before [] come settled number (inl is) d e le more = absurd is
  settled_all depth before [] come settled number (inr is) d e le more = settled number is d e (omega (arith, le)) (omega (arith, more))
  settled_all depth before (node ∷ order) (below, new, leads, come) settled number is d e le more =
      settled_all (suc depth) (node ∷ before) order come one number (place is) d e (omega (arith, le)) (omega (arith, more))
    where
      place : IsIn number (node ∷ order) ⊎ IsIn number before → IsIn number order ⊎ IsIn number (node ∷ before)
      place (inl (inl same)) = inr (inl same)
      place (inl (inr i)) = inl i
      place (inr i) = inr (inr i)

      one : Settled (suc depth) (node ∷ before)
      one x (inr i) f g a b = settled x i f g (omega (arith, a)) (omega (arith, b))
      one x (inl same) zero g a b = absurd (omega (arith, a))
      one x (inl same) (suc f) zero a b = absurd (omega (arith, b))
      one x (inl same) (suc f) (suc g) a b = settled_node depth before x settled (subst (λ (m : ℕ). (led : ℕ) → IsIn led (leads_in nodes m) → IsIn led before) (sym same) leads) f g (omega (arith, a)) (omega (arith, b)) (slice_get nodes x) refl

  -- through all nodes the rule is kept
  pub through-rule : (order : List NodeNo) → IsOrder nodes order → (number : ℕ) (node : Node) → slice_get nodes number ≡ Some node → through none rule nodes number ≡ rule (through none rule nodes) number node
  through-rule order is number node at =
      let few = order-within nodes order is in
      let inside : number < length nodes = slice_get_within nodes number node at in
      settled_all 0 [] order is.after (λ x i. absurd i) number (inl (is.each number inside)) (length nodes) (suc (length nodes)) (omega (arith, few)) (omega (arith, few))
      ∙ ap (for_node none (rule (through none rule nodes) number)) at
