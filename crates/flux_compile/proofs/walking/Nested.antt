-- Through all nested nodes the code of nodes runs as their walks, where each has its segment, and they have an order.
use Rattle.std.proofs.Common.{◌≡◌, ◌<◌, ◌≤◌, ◌+◌, ℕ, zero, suc, ◌⊎◌, inl, inr, List, [], ◌∷◌, length, Option, Some, None, refl, sym, subst, arith}
use Rattle.std.specs.List.{slice_get}
use Rattle.flux_model.specs.declared.programs.NodeNo.{NodeNo}
use Rattle.flux_model.specs.declared.programs.Node.{Node}
use Rattle.flux_model.specs.Children.{IsIn}
use Rattle.flux_model.specs.Leading.{leads_in}
use Rattle.flux_model.specs.Nested.{for_node, nested}
use Rattle.flux_model.specs.Ordering.{ComeAfter, IsOrder}
use Rattle.flow_model.specs.Walk.{Given, Walking, lost, walk_by, walk}
use Rattle.flux_graph.proofs.Depths.{order-within}
use Rattle.flux_plan.specs.declared.plans.Segment.{Segment}
use Rattle.flux_compile.specs.steps.Segments.{segment_of}
use Rattle.flux_compile.proofs.walking.Nodes.{IsRun, node-runs}

some_there : (nodes : List Node) (number : ℕ) → number < length nodes → slice_get nodes number ≡ None → ⊥
some_there [] number inside none = omega (arith, inside)
some_there (node ∷ nodes) zero inside none = absurd cc
some_there (node ∷ nodes) (suc number) inside none = some_there nodes number (omega (arith, inside)) none

-- the nodes to which flows come: what they lead to is of them, and each of them has its segment
module _ (segments : List Segment) (given : Given) (nodes : List Node) (Comes : ℕ → Type 0)
    (on : (number led : ℕ) → IsIn led (leads_in nodes number) → Comes led)
    (are : (number : ℕ) (node : Node) → Comes number → slice_get nodes number ≡ Some node → slice_get segments number ≡ Some (segment_of (given.locks number) node)) where
  -- the walk through so many nested nodes
  abbrev deep : ℕ → ℕ → Walking
  deep depth number = nested (λ values left. lost) (walk_by given) nodes depth number

  -- through so many nested nodes, and through more, these run as their walks
  abbrev Run : ℕ → List NodeNo → Type 0
  Run depth known = (number : ℕ) → Comes number → IsIn number known → (d : ℕ) → depth ≤ d → IsRun segments given number (deep d number)

  run_node : (depth : ℕ) (before : List NodeNo) (number : ℕ) → Comes number → Run depth before → ((led : ℕ) → IsIn led (leads_in nodes number) → IsIn led before)
      → number < length nodes → (d : ℕ) → depth ≤ d → (found : Option Node) → slice_get nodes number ≡ found
      → IsRun segments given number (for_node (λ values left. lost) (walk_by given (deep d) number) found)
  run_node depth before number comes known leads inside d le None at = absurd (some_there nodes number inside at)
  run_node depth before number comes known leads inside d le (Some node) at =
      node-runs segments given number node (given.locks number) (are number node comes at) refl (deep d)
      (λ led is. let there : IsIn led (leads_in nodes number) = rw at is in known led (on number led there) (leads led there) d le)

  run_all : (depth : ℕ) (before order : List NodeNo) → ComeAfter nodes before order → Run depth before → (number : ℕ) → Comes number → IsIn number order ⊎ IsIn number before
      → (d : ℕ) → depth + length order ≤ d → IsRun segments given number (deep d number)
  run_all depth before [] come known number comes (inl is) d le = absurd is
  run_all depth before [] come known number comes (inr is) d le = known number comes is d (omega (arith, le))
  run_all depth before (node ∷ order) (inside, new, leads, come) known number comes is d le =
      run_all (suc depth) (node ∷ before) order come one number comes (place is) d (omega (arith, le))
    where
      place : IsIn number (node ∷ order) ⊎ IsIn number before → IsIn number order ⊎ IsIn number (node ∷ before)
      place (inl (inl same)) = inr (inl same)
      place (inl (inr i)) = inl i
      place (inr i) = inr (inr i)

      one : Run (suc depth) (node ∷ before)
      one x own (inr i) g a = known x own i g (omega (arith, a))
      one x own (inl same) zero a = absurd (omega (arith, a))
      one x own (inl same) (suc g) a =
          run_node depth before x own known (subst (λ (m : ℕ). (led : ℕ) → IsIn led (leads_in nodes m) → IsIn led before) (sym same) leads)
          (subst (λ (m : ℕ). m < length nodes) (sym same) inside) g (omega (arith, a)) (slice_get nodes x) refl

  -- the code of such a node runs as its walk
  pub walks-run : (order : List NodeNo) → IsOrder nodes order → (number : ℕ) → Comes number → number < length nodes → IsRun segments given number (walk given nodes number)
  walks-run order is number comes inside =
      let few = order-within nodes order is in
      run_all 0 [] order is.after (λ x own i. absurd i) number comes (inl (is.each number inside)) (length nodes) (omega (arith, few))
