-- To be an order of nodes is a proposition.
use Rattle.std.proofs.Common.{ℕ, ◌<◌, inl, inr, List, [], ◌∷◌, length, refl, ap, subst}
use Rattle.std.proofs.Math.Bridge.{le_prop}
use Rattle.std.proofs.Math.Nat.{ℕ_set}
use Rattle.flux_model.specs.declared.programs.NodeNo.{NodeNo}
use Rattle.flux_model.specs.declared.programs.Node.{Node}
use Rattle.flux_model.specs.Leading.{leads_in}
use Rattle.flux_model.specs.Children.{IsIn}
use Rattle.flux_model.specs.Ordering.{ComeAfter, IsOrder, AreDistinct}

-- a number is among distinct ones at one place
in-prop : (x : ℕ) (numbers : List NodeNo) → AreDistinct numbers → IsProp (IsIn x numbers)
in-prop x [] distinct a b = absurd a
in-prop x (n ∷ numbers) (new, distinct) (inl a) (inl b) = ap inl (ℕ_set x n.0 a b)
in-prop x (n ∷ numbers) (new, distinct) (inl a) (inr b) = absurd (new (subst (λ (m : ℕ). IsIn m numbers) a b))
in-prop x (n ∷ numbers) (new, distinct) (inr a) (inl b) = absurd (new (subst (λ (m : ℕ). IsIn m numbers) b a))
in-prop x (n ∷ numbers) (new, distinct) (inr a) (inr b) = ap inr (in-prop x numbers distinct a b)

come_after-prop : (nodes : List Node) (before order : List NodeNo) → AreDistinct before → IsProp (ComeAfter nodes before order)
come_after-prop nodes before [] distinct a b = refl
come_after-prop nodes before (node ∷ order) distinct a b =
    let within : IsProp (node.0 < length nodes) = hlevel le_prop in
    let new : IsProp (IsIn node.0 before → ⊥) = hlevel in
    let leads : IsProp ((led : ℕ) → IsIn led (leads_in nodes node.0) → IsIn led before) = (let one : (led : ℕ) → IsProp (IsIn led before) = λ led. in-prop led before distinct in hlevel one) in
    let more : IsProp (ComeAfter nodes (node ∷ before) order) = come_after-prop nodes (node ∷ before) order (a.1, distinct) in
    λ i. (within a.0 b.0 i, new a.1 b.1 i, leads a.2 b.2 i, more a.3 b.3 i)

-- what comes after others is none of them, and is distinct
module _ (nodes : List Node) where
  apart : (before order : List NodeNo) → ComeAfter nodes before order → (x : ℕ) → IsIn x before → IsIn x order → ⊥
  apart before [] come x first later = later
  apart before (node ∷ order) come x first (inl same) = come.1 (subst (λ (m : ℕ). IsIn m before) same first)
  apart before (node ∷ order) come x first (inr later) = apart (node ∷ before) order come.3 x (inr first) later

  distinct_order : (before order : List NodeNo) → ComeAfter nodes before order → AreDistinct order
  distinct_order before [] come = tt
  distinct_order before (node ∷ order) come =
      (apart (node ∷ before) order come.3 node.0 (inl refl), distinct_order (node ∷ before) order come.3)

pub is_order-prop : (nodes : List Node) (order : List NodeNo) → IsProp (IsOrder nodes order)
is_order-prop nodes order a b =
    let each : IsProp ((number : ℕ) → number < length nodes → IsIn number order) = (let one : (number : ℕ) → IsProp (IsIn number order) = λ number. in-prop number order (distinct_order nodes [] order a.after) in hlevel one) in
    let after : IsProp (ComeAfter nodes [] order) = come_after-prop nodes [] order tt in
    λ i. record { each = each a.each b.each i; after = after a.after b.after i }
