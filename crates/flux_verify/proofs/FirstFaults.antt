-- The lowest node that has a faulty place, and its first one.
use Rattle.std.proofs.Common.{◌≡◌, ◌⊎◌, inl, inr, ◌<◌, ◌≤◌, ◌+◌, ℕ, true, false, eqb, List, [], ◌∷◌, length, Option, Some, None, refl, sym, ap, subst, ◌∙◌, arith}
use Rattle.std.specs.Prelude.{IsSome, is_some, option_copied}
use Rattle.std.specs.Borrow.{Bor}
use Rattle.std.specs.List.{slice_get, list_any}
use Rattle.std.proofs.lemmas.Bool.{cases_order}
use Rattle.std.proofs.lemmas.Option.{slice_get_within}
use Rattle.flux_model.specs.Children.{IsIn}
use Rattle.flux_plan.specs.declared.plans.Plan.{Plan}
use Rattle.flux_plan.specs.declared.plans.Segment.{Segment}
use Rattle.flux_plan.specs.Leading.{IsWay, Reaches}
use Rattle.flux_plan.specs.Faulty.{IsFault, IsFaultIn, IsFaulty, IsVerified}
use Rattle.flux_verify.specs.Faults.{IsFirstFault}
use Rattle.flux_verify.specs.steps.Checks.{IsFirstPlace}
use Rattle.flux_model.specs.Visits.{IsKnown}
use Rattle.flux_verify.specs.steps.Visits.{IsReachedFrom, IsReach}

module _ (plan : Plan) (reached : List ℕ) (reach : IsReach plan.segments (plan.target ∷ []) reached) where
  known_reached : (node : ℕ) → IsKnown node reached → Reaches plan.segments plan.target.0 node
  known_reached node known = let from = reach.each node known in one from from.among
    where
      one : (from : IsReachedFrom plan.segments (plan.target ∷ []) node) → IsIn from.start (plan.target ∷ []) → Reaches plan.segments plan.target.0 node
      one from (inl same) = subst (λ (n : ℕ). Reaches plan.segments n node) same from.reaches
      one from (inr none) = absurd none

  -- a node that the target doesn't reach has no faulty place
  pub none_unreached : (node : ℕ) (segment : Segment) → false ≡ list_any (eqb node) reached → IsFirstPlace (λ place. IsFaultIn plan node place (Some segment)) None
  none_unreached node segment off place (way, fault) =
      let known : IsKnown node reached = reach.all node (record { start = plan.target.0; among = inl refl; reaches = way }) in
      let e : false ≡ true = off ∙ known in
      absurd cc

  -- in one that it reaches, all places that the four faults have are faulty
  pub first_reached : (node : ℕ) (segment : Segment) → true ≡ list_any (eqb node) reached → (found : Option ℕ) → IsFirstPlace (IsFault plan.segments node segment) found
      → IsFirstPlace (λ place. IsFaultIn plan node place (Some segment)) found
  first_reached node segment on None none = λ place is. none place is.1
  first_reached node segment on (Some at) (fault, first) = ((known_reached node (sym on), fault), λ place is. first place is.1)

module _ (plan : Plan) where
  -- no node before a number has a faulty place
  abbrev pub NoneBefore : ℕ → Type 0
  NoneBefore number = (other at : ℕ) → IsFaulty plan other at → number ≤ other

  -- a faulty place in the next node
  pub first_here : (node : ℕ) (segment : Segment) (found : ℕ) → slice_get plan.segments node ≡ Some segment → NoneBefore node
      → IsFirstPlace (λ place. IsFaultIn plan node place (Some segment)) (Some found) → IsFirstFault plan node found
  first_here node segment found is before (fault, first) = record {
    faulty = subst (IsFaultIn plan node found) (sym is) fault;
    lowest = before;
    first = λ at other. first at (subst (IsFaultIn plan node at) is other);
  }

  -- none in the next node
  pub none_here : (node : ℕ) (segment : Segment) → slice_get plan.segments node ≡ Some segment → NoneBefore node
      → IsFirstPlace (λ place. IsFaultIn plan node place (Some segment)) None → NoneBefore (node + 1)
  none_here node segment is before none other at fault = one (cases_order other node)
    where
      le : node ≤ other
      le = before other at fault

      one : (other ≡ node) ⊎ ((other < node) ⊎ (node < other)) → node + 1 ≤ other
      one (inl same) =
          let here : IsFaultIn plan node at (slice_get plan.segments node) = subst (λ (n : ℕ). IsFaulty plan n at) same fault in
          absurd (none at (subst (IsFaultIn plan node at) is here))
      one (inr (inl less)) = absurd (omega (arith, less, le))
      one (inr (inr more)) = omega (arith, more)

  gone : (found : Option Segment) → found ≡ None → IsSome found → ⊥
  gone None e some = cc
  gone (Some s) e some = absurd cc

  -- none in any node, where the target has a segment
  pub none_at_all : (number : ℕ) → length plan.segments ≤ number → IsSome (slice_get plan.segments plan.target.0) → NoneBefore number → IsVerified plan
  none_at_all number over target before = record { none = λ node at fault. one node at (slice_get plan.segments node) refl fault }
    where
      one : (node at : ℕ) (found : Option Segment) → slice_get plan.segments node ≡ found → IsFaulty plan node at → ⊥
      one node at None is fault =
          let (same, zero) = (let h : IsFaultIn plan node at None = subst (IsFaultIn plan node at) is fault in h) in
          let e : slice_get plan.segments plan.target.0 ≡ None = ap (slice_get plan.segments) (sym same) ∙ is in
          gone (slice_get plan.segments plan.target.0) e target
      one node at (Some segment) is fault =
          let lt = slice_get_within plan.segments node segment is in
          let le = before node at fault in
          absurd (omega (arith, lt, le, over))

  -- a target without a segment
  pub first_without : None ≡ slice_get plan.segments plan.target.0 → IsFirstFault plan plan.target.0 0
  first_without none = record {
    faulty = subst (IsFaultIn plan plan.target.0 0) none (refl, refl);
    lowest = λ other at fault. one other at (slice_get plan.segments other) refl fault;
    first = λ at fault. omega arith;
  }
    where
      stays : (between : List ℕ) (to : ℕ) → IsWay plan.segments plan.target.0 between to → plan.target.0 ≡ to
      stays [] to same = same
      stays (next ∷ between) to (led, way) = let h : IsIn next [] = rw (sym none) at led in absurd h

      one : (other at : ℕ) (found : Option Segment) → slice_get plan.segments other ≡ found → IsFaulty plan other at → plan.target.0 ≤ other
      one other at None is fault =
          let (same, zero) = (let h : IsFaultIn plan other at None = subst (IsFaultIn plan other at) is fault in h) in
          omega (arith, same)
      one other at (Some segment) is fault =
          let (way, own) = (let h : IsFaultIn plan other at (Some segment) = subst (IsFaultIn plan other at) is fault in h) in
          let same = stays way.between other way.way in
          omega (arith, same)

-- nothing is found where no copy of it is
pub none_copied : {X : Type 0} (own : Option (Bor X)) (found : Option X) → option_copied own ≡ found → is_some own ≡ false → None ≡ found
none_copied None found e none = e
none_copied (Some x) found e none = absurd cc
