-- What holds of a search goes on holding.
use Rattle.std.proofs.Common.{◌+◌, ◌≡◌, ◌<◌, ℕ, suc, ◌⊎◌, inl, inr, List, [], ◌∷◌, ◌++◌, length, sym, subst, arith}
use Rattle.flux_model.specs.declared.programs.NodeNo.{NodeNo}
use Rattle.flux_model.specs.declared.programs.Node.{Node}
use Rattle.flux_model.specs.Children.{IsIn}
use Rattle.flux_graph.specs.declared.steps.Step.{Step}
use Rattle.flux_graph.specs.declared.steps.Step.TheVariants.{Enter, Leave}
use Rattle.flux_model.specs.Leading.{leads_in}
use Rattle.flux_model.specs.Ordering.{ComeAfter}
use Rattle.flux_graph.specs.steps.Searching.{enters, leaves_of, numbered}
use Rattle.flux_graph.specs.steps.Search.{HasStep}
use Rattle.flux_model.proofs.NodeLists.{in_front}
use Rattle.flux_graph.proofs.Stepping as stepping
use Rattle.flux_graph.proofs.Stepping.{IsReplaced, last_of}

-- ---- the order grows

-- a node after an order, where all that it leads to is before it
pub after_more : (nodes : List Node) (before order : List NodeNo) (node : NodeNo) → ComeAfter nodes before order → node.0 < length nodes → (IsIn node.0 before → ⊥) → (IsIn node.0 order → ⊥) → ((x : ℕ) → IsIn x (leads_in nodes node.0) → IsIn x order ⊎ IsIn x before)
    → ComeAfter nodes before (order ++ node ∷ [])
after_more nodes before [] node a lt new other all = (lt, new, (λ x i. from x (all x i)), tt)
  where
    from : (x : ℕ) → IsIn x [] ⊎ IsIn x before → IsIn x before
    from x (inl i) = absurd i
    from x (inr i) = i
after_more nodes before (n ∷ order) node (low, own, led, a) lt new other all = (low, own, led, after_more nodes (n ∷ before) order node a lt fresh (λ i. other (inr i)) (λ x i. from x (all x i)))
  where
    fresh : IsIn node.0 (n ∷ before) → ⊥
    fresh (inl e) = other (inl e)
    fresh (inr i) = new i

    from : (x : ℕ) → IsIn x (n ∷ order) ⊎ IsIn x before → IsIn x order ⊎ IsIn x (n ∷ before)
    from x (inl (inl e)) = inr (inl e)
    from x (inl (inr i)) = inl i
    from x (inr i) = inr (inr i)

-- ---- what is left of the old steps

-- a last step goes
pub gone : (node : NodeNo) (order : List NodeNo) → IsIn node.0 order → (x : ℕ) → (x ≡ node.0) ⊎ HasStep x [] → IsIn x order ⊎ HasStep x []
gone node order i x (inl e) = inl (subst (λ (n : ℕ). IsIn n order) (sym e) i)
gone node order i x (inr h) = absurd h

-- what is in an order is in a longer one
pub grown : (order : List NodeNo) (node : NodeNo) (x : ℕ) → IsIn x order → IsIn x (order ++ node ∷ [])
grown order node x i = in_front x order (node ∷ []) i

-- roots stay where the last steps are replaced
pub roots_on : (nodes : List Node) (order later : List NodeNo) (s old new : List Step) → ((x : ℕ) → IsIn x order → IsIn x later) → IsReplaced later old new → ((x : ℕ) → x < length nodes → IsIn x order ⊎ HasStep x (s ++ old)) → (x : ℕ) → x < length nodes → IsIn x later ⊎ HasStep x (s ++ new)
roots_on nodes order later s old new grows replaced roots x lt = from (roots x lt)
  where
    last : IsIn x later ⊎ HasStep x new → IsIn x later ⊎ HasStep x (s ++ new)
    last (inl i) = inl i
    last (inr h) = inr (stepping.step_behind x s new h)

    either : HasStep x s ⊎ HasStep x old → IsIn x later ⊎ HasStep x (s ++ new)
    either (inl h) = inr (stepping.step_before x s new h)
    either (inr h) = last (replaced x h)

    from : IsIn x order ⊎ HasStep x (s ++ old) → IsIn x later ⊎ HasStep x (s ++ new)
    from (inl i) = inl (grows x i)
    from (inr h) = either (stepping.step_either x s old h)

-- ---- leaving a node

-- a step that exits a node is one more of those not exited
pub leaves_with : (s : List Step) (node : NodeNo) → leaves_of (s ++ Leave node ∷ []) ≡ leaves_of s ++ node ∷ []
leaves_with s node = stepping.leaves_append s (Leave node ∷ [])

-- a step that enters a node is none of them
pub leaves_same : (s : List Step) (node : NodeNo) → leaves_of (s ++ Enter node ∷ []) ≡ leaves_of s ++ []
leaves_same s node = stepping.leaves_append s (Enter node ∷ [])

-- steps into one number more
pub roots_more : (s : List Step) (n m : ℕ) → n ≡ m → s ≡ enters (numbered m) → (s ++ Enter (record { 0 = n }) ∷ []) ≡ enters (numbered (m + 1))
roots_more s n m same e =
    let one : m + 1 ≡ suc m = omega arith in
    rw (one, same, e) (sym (stepping.enters_append (numbered m) (record { 0 = m } ∷ [])))
