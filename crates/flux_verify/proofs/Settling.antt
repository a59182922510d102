-- A node that comes after all that it leads to is on no cycle, where all before it do so too.
use Rattle.std.proofs.Common.{◌≡◌, inl, inr, ◌<◌, ◌+◌, ℕ, zero, suc, Bool, true, false, eqb, List, [], ◌∷◌, ◌++◌, length, Some, refl, sym, ap, subst, ◌∙◌, arith}
use Rattle.std.specs.List.{slice_get, list_any, list_all}
use Rattle.flux_model.specs.declared.programs.NodeNo.{NodeNo}
use Rattle.flux_model.specs.Children.{IsIn}
use Rattle.flux_plan.specs.declared.plans.Segment.{Segment}
use Rattle.flux_plan.specs.Leading.{leads_from, IsWay, IsOnCycle}
use Rattle.flux_model.specs.Visits.{IsKnown, with_number}
use Rattle.flux_verify.specs.steps.Checks.{AreOffCycles}
use Rattle.flux_verify.specs.steps.Orders.{StandsBefore, IsSettled, AreKnown}
use Rattle.flux_model.proofs.Visiting.{known_place, place_append}

pub none_settled : (segments : List Segment) → IsSettled segments []
none_settled segments place node led is on = absurd cc

-- numbers that are known are all known
pub known_all : (visits : List ℕ) (nodes : List NodeNo) → AreKnown visits nodes → list_all (λ node. list_any (eqb node.0) visits) nodes ≡ true
known_all visits [] known = refl
known_all visits (n ∷ nodes) known = rw (known n.0 (inl refl)) (known_all visits nodes (λ node is. known node (inr is)))

module _ (segments : List Segment) where
  -- a place of a list with one number more at its end
  data AtEnd (settled : List ℕ) (node place number : ℕ) : Type 0 where
    before : slice_get settled place ≡ Some number → AtEnd settled node place number
    end : place ≡ length settled → number ≡ node → AtEnd settled node place number

  at_end : (settled : List ℕ) (node place number : ℕ) → slice_get (settled ++ node ∷ []) place ≡ Some number → AtEnd settled node place number
  at_end [] node zero number is = end refl (let e : node ≡ number = cc in sym e)
  at_end [] node (suc place) number is = absurd cc
  at_end (n ∷ settled) node zero number is = before is
  at_end (n ∷ settled) node (suc place) number is = one (at_end settled node place number is)
    where
      one : AtEnd settled node place number → AtEnd (n ∷ settled) node (suc place) number
      one (before is) = before is
      one (end at same) = end (ap suc at) same

  pub settled_more : (settled : List ℕ) (node : ℕ) → IsSettled segments settled → AreKnown settled (leads_from segments node) → IsSettled segments (with_number settled node)
  settled_more settled node own known = one (list_any (eqb node) settled) refl
    where
      still : (place led : ℕ) → StandsBefore settled place led → StandsBefore (settled ++ node ∷ []) place led
      still place led at = record { at_ = at.at_; before = at.before; is = place_append settled (node ∷ []) at.at_ led at.is }

      last : (place led : ℕ) → place ≡ length settled → IsKnown led settled → StandsBefore (settled ++ node ∷ []) place led
      last place led size k = let at = known_place settled led k in record { at_ = at.place; before = omega (arith, at.within, size); is = place_append settled (node ∷ []) at.place led at.is }

      more : (place number led : ℕ) → AtEnd settled node place number → IsIn led (leads_from segments number) → StandsBefore (settled ++ node ∷ []) place led
      more place number led (before is) on = still place led (own place number led is on)
      more place number led (end at same) on = last place led at (known led (subst (λ (n : ℕ). IsIn led (leads_from segments n)) same on))

      one : (t : Bool) → list_any (eqb node) settled ≡ t → IsSettled segments (with_number settled node)
      one true e = rw e own
      one false e = rw e (λ place number led is on. more place number led (at_end settled node place number is) on)

  module _ (settled : List ℕ) (own : IsSettled segments settled) where
    -- what a settled node reaches is at its place, or before
    pub follow : (place from : ℕ) (between : List ℕ) (to : ℕ) → slice_get settled place ≡ Some from → IsWay segments from between to → StandsBefore settled (place + 1) to
    follow place from [] to is same = record { at_ = place; before = omega arith; is = is ∙ ap Some same }
    follow place from (next ∷ between) to is (led, way) =
        let at = own place from next is led in
        let there = follow at.at_ next between to at.is way in
        record { at_ = there.at_; before = omega (arith, there.before, at.before); is = there.is }

    descend : (fuel place node : ℕ) → place < fuel → slice_get settled place ≡ Some node → IsOnCycle segments node → ⊥
    descend zero place node lt is cycle = absurd (omega (arith, lt))
    descend (suc fuel) place node lt is cycle =
        let at = own place node cycle.next is cycle.led in
        let back = cycle.back in
        let there = follow at.at_ cycle.next back.between node at.is back.way in
        descend fuel there.at_ node (omega (arith, lt, at.before, there.before)) there.is cycle

    pub settled_off : AreOffCycles segments settled
    settled_off node known cycle = let at = known_place settled node known in descend (at.place + 1) at.place node (omega arith) at.is cycle
