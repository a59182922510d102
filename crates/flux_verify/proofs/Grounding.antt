-- What one search in depth tells of nodes: takes that are closed.
use Rattle.std.proofs.Common.{◌≡◌, ◌⊎◌, inl, inr, ℕ, zero, suc, Bool, true, false, not, ◌&&◌, ◌||◌, eqb, List, [], ◌∷◌, Option, Some, None, refl, sym, ap, subst, ◌∙◌, arith}
use Rattle.std.specs.List.{list_any, slice_get, Contains}
use Rattle.std.proofs.lemmas.List.Folds.{list_any-append}
use Rattle.std.proofs.lemmas.Bool.Decides.{nat_tests}
use Rattle.flux_values.specs.declared.answers.Mode.{Mode}
use Rattle.flux_values.specs.declared.answers.Mode.TheVariants.{Reader, Writer}
use Rattle.flux_model.specs.declared.programs.NodeNo.{NodeNo}
use Rattle.flux_model.specs.declared.programs.ClassNo.{ClassNo}
use Rattle.flux_model.specs.declared.programs.Hold.{Hold}
use Rattle.flux_model.specs.Modes.{at_least}
use Rattle.flux_model.specs.Children.{IsIn}
use Rattle.flux_plan.specs.declared.plans.Segment.{Segment}
use Rattle.flux_plan.specs.declared.plans.Instr.TheVariants.{Go}
use Rattle.flux_plan.specs.Leading.{leads_from, takes_of}
use Rattle.flux_verify.specs.steps.Checks.{covers, has_past, lacks, IsOpenTo, IsMisled, IsMisledAt, IsFirstPlace}
use Rattle.flux_verify.specs.steps.Orders.{IsSettled, AreKnown, with_take, with_takes, with_if, AreCovered, AreClosed, IsGround, OpenAlike}
use Rattle.flux_model.specs.Visits.{IsKnown, with_number}
use Rattle.flux_model.proofs.Visiting.{known_or, known_place, place_known}
use Rattle.flux_verify.proofs.Settling.{settled_more, follow}
use Rattle.flux_plan.proofs.Placing.{led_from}
use Rattle.flux_verify.proofs.Checking.{both, item_any, covers_it, it_covers, closed_without}

-- ---- modes

at_least_same : (mode : Mode) → at_least mode mode ≡ true
at_least_same Writer = refl
at_least_same Reader = refl

at_least_on : (high middle low : Mode) → at_least high middle ≡ true → at_least middle low ≡ true → at_least high low ≡ true
at_least_on Writer middle low above below = refl
at_least_on Reader Reader low above below = below
at_least_on Reader Writer low above below = absurd cc

-- ---- takes more

-- one take is at least another, of the same class
abbrev IsAbove : Hold → Hold → Bool
IsAbove own hold = eqb own.class.0 hold.class.0 && at_least own.mode hold.mode

above_itself : (hold : Hold) → IsAbove hold hold ≡ true
above_itself hold = let same : eqb hold.class.0 hold.class.0 ≡ true = grind (arith, nat_tests) in rw same (at_least_same hold.mode)

-- what covers a take covers all below that
covers_through : (takes : List Hold) (own hold : Hold) → covers takes own ≡ true → IsAbove own hold ≡ true → covers takes hold ≡ true
covers_through takes own hold e above =
    let has = covers_it takes own e in
    let (same, enough) = both (eqb own.class.0 hold.class.0) (at_least own.mode hold.mode) above in
    let number : own.class.0 ≡ hold.class.0 = grind (arith, nat_tests, same) in
    let class : own.class ≡ hold.class = ap (λ (n : ℕ). let c : ClassNo = record { 0 = n } in c) number in
    it_covers takes hold (record {
      mode = has.mode;
      has = subst (λ (c : ClassNo). let h : Hold = record { class = c; mode = has.mode } in Contains takes h) class has.has;
      enough = at_least_on has.mode own.mode hold.mode has.enough enough;
    })

or_left : (p q : Bool) → p ≡ true → (p || q) ≡ true
or_left true q e = refl
or_left false q e = absurd cc

or_right : (p q : Bool) → q ≡ true → (p || (q || false)) ≡ true
or_right true q e = refl
or_right false true e = refl
or_right false false e = absurd cc

covers_kept : (takes : List Hold) (take hold : Hold) → covers takes hold ≡ true → covers (with_take takes take) hold ≡ true
covers_kept takes take hold e = one (covers takes take) refl
  where
    one : (t : Bool) → covers takes take ≡ t → covers (with_take takes take) hold ≡ true
    one true is = rw is e
    one false is = rw is (list_any-append (λ own. IsAbove own hold) takes (take ∷ []) ∙ or_left (covers takes hold) (covers (take ∷ []) hold) e)

covers_new : (takes : List Hold) (take hold : Hold) → IsAbove take hold ≡ true → covers (with_take takes take) hold ≡ true
covers_new takes take hold above = one (covers takes take) refl
  where
    one : (t : Bool) → covers takes take ≡ t → covers (with_take takes take) hold ≡ true
    one true is = rw is (covers_through takes take hold is above)
    one false is = rw is (list_any-append (λ own. IsAbove own hold) takes (take ∷ []) ∙ or_right (covers takes hold) (IsAbove take hold) above)

takes_kept : (takes others : List Hold) (hold : Hold) → covers takes hold ≡ true → covers (with_takes takes others) hold ≡ true
takes_kept takes [] hold e = e
takes_kept takes (take ∷ others) hold e = takes_kept (with_take takes take) others hold (covers_kept takes take hold e)

takes_new : (takes others : List Hold) (hold : Hold) → Contains others hold → covers (with_takes takes others) hold ≡ true
takes_new takes [] hold (k, lt, is) = absurd (omega (arith, lt))
takes_new takes (take ∷ others) hold (zero, lt, is) =
    takes_kept (with_take takes take) others hold (covers_new takes take hold (subst (λ (h : Hold). IsAbove h hold ≡ true) (sym is) (above_itself hold)))
takes_new takes (take ∷ others) hold (suc k, lt, is) = takes_new (with_take takes take) others hold (k, omega (arith, lt), is)

-- ---- takes that are closed

module _ (segments : List Segment) (straight : List ℕ) (taken : List Hold) (node : ℕ) where
  abbrev own : List Hold
  own = takes_of segments node

  -- takes that lack nothing of what the nodes before take are closed at all that the node leads to
  closed_here : IsSettled segments straight → AreCovered segments straight taken → AreKnown straight (leads_from segments node) → false ≡ list_any (lacks own) taken
      → (led : ℕ) → IsIn led (leads_from segments node) → IsOpenTo segments own led → ⊥
  closed_here settled covered known none led on is =
      let at = known_place straight led (known led on) in
      let reach = is.reached in
      let there = follow segments straight settled at.place led reach.between is.node at.is reach.way in
      let has = covers_it taken is.hold (covered is.node is.hold (place_known straight there.at_ is.node there.is) is.taken) in
      let take : Hold = record { class = let h = is.hold in h.class; mode = has.mode } in
      let (past, uncovered) = both (has_past own is.hold) (not (covers own is.hold)) is.lacking in
      let hold = is.hold in
      let same : eqb hold.class.0 hold.class.0 ≡ true = grind (arith, nat_tests) in
      let above : IsAbove take hold ≡ true = rw same has.enough in
      let lacking : lacks own take ≡ true = rw past (open_ take hold above uncovered (covers own take) refl) in
      let e : false ≡ true = none ∙ item_any (lacks own) taken take has.has lacking in
      cc
    where
      open_ : (take hold : Hold) → IsAbove take hold ≡ true → not (covers own hold) ≡ true → (t : Bool) → covers own take ≡ t → (true && not (covers own take)) ≡ true
      open_ take hold above uncovered true c = let e = covers_through own take hold c above in absurd (let n : not true ≡ true = rw e at uncovered in cc)
      open_ take hold above uncovered false c = rw c refl

  -- a node more
  pub ground_more : (closed : List ℕ) (lacking : Bool) → IsGround segments straight closed taken → AreKnown straight (leads_from segments node) → lacking ≡ list_any (lacks own) taken
      → IsGround segments (with_number straight node) (with_if (not lacking) closed node) (with_takes taken own)
  ground_more closed lacking ground known e = record {
    settled = settled_more segments straight node ground.settled known;
    covered = covered;
    closed_ = by lacking e;
  }
    where
      covered : AreCovered segments (with_number straight node) (with_takes taken own)
      covered other hold is has = one (known_or other straight node is)
        where
          one : IsKnown other straight ⊎ (other ≡ node) → covers (with_takes taken own) hold ≡ true
          one (inl before) = takes_kept taken own hold (ground.covered other hold before has)
          one (inr same) = takes_new taken own hold (subst (λ (n : ℕ). Contains (takes_of segments n) hold) same has)

      more : false ≡ list_any (lacks own) taken → AreClosed segments (with_number closed node)
      more none other led is on open_to = one (known_or other closed node is)
        where
          one : IsKnown other closed ⊎ (other ≡ node) → ⊥
          one (inl before) = ground.closed_ other led before on open_to
          one (inr same) = closed_here ground.settled ground.covered known none led (subst (λ (n : ℕ). IsIn led (leads_from segments n)) same on) (subst (λ (n : ℕ). IsOpenTo segments (takes_of segments n) led) same open_to)

      by : (lacking : Bool) → lacking ≡ list_any (lacks own) taken → AreClosed segments (with_if (not lacking) closed node)
      by true e = ground.closed_
      by false e = more e

pub ground_begun : (segments : List Segment) → IsGround segments [] [] []
ground_begun segments = record {
  settled = λ place node led is on. absurd cc;
  covered = λ node hold known has. absurd cc;
  closed_ = λ node led known on is. absurd cc;
}

-- ---- places

-- no takes are as good as those of a node that is closed
pub none_alike : (segments : List Segment) (closed : List ℕ) (node : ℕ) → AreClosed segments closed → true ≡ list_any (eqb node) closed → OpenAlike segments node []
none_alike segments closed node are known led on = (λ is. absurd (closed_without segments [] led refl is), λ is. absurd (are node led (sym known) on is))

pub own_alike : (segments : List Segment) (node : ℕ) (takes : List Hold) → takes ≡ takes_of segments node → OpenAlike segments node takes
own_alike segments node takes same led on = (
  λ is. subst (λ (hs : List Hold). IsOpenTo segments hs led) same is,
  λ is. subst (λ (hs : List Hold). IsOpenTo segments hs led) (sym same) is,
)

module _ (segments : List Segment) (node : ℕ) (segment : Segment) (stands : slice_get segments node ≡ Some segment) (takes : List Hold) (alike : OpenAlike segments node takes) where
  leads_on : (place : ℕ) (inner : NodeNo) → slice_get segment.code place ≡ Some (Go inner) → IsIn inner.0 (leads_from segments node)
  leads_on place inner at = rw stands (led_from segment.code place inner.0 (Go inner) at (inl refl))

  to : (place : ℕ) → IsMisledAt segments takes segment place → IsMisledAt segments (takes_of segments node) segment place
  to place is = record { instr = is.instr; at_ = is.at_; misled = one is.misled }
    where
      one : IsMisled segments takes is.instr → IsMisled segments (takes_of segments node) is.instr
      one (inl has) = inl has
      one (inr go) = let on = leads_on place go.inner (is.at_ ∙ ap Some go.is) in inr (record { inner = go.inner; is = go.is; open_ = let both_ways = alike go.inner.0 on in both_ways.0 go.open_ })

  from : (place : ℕ) → IsMisledAt segments (takes_of segments node) segment place → IsMisledAt segments takes segment place
  from place is = record { instr = is.instr; at_ = is.at_; misled = one is.misled }
    where
      one : IsMisled segments (takes_of segments node) is.instr → IsMisled segments takes is.instr
      one (inl has) = inl has
      one (inr go) = let on = leads_on place go.inner (is.at_ ∙ ap Some go.is) in inr (record { inner = go.inner; is = go.is; open_ = let both_ways = alike go.inner.0 on in both_ways.1 go.open_ })

  pub first_alike : (found : Option ℕ) → IsFirstPlace (IsMisledAt segments takes segment) found → IsFirstPlace (IsMisledAt segments (takes_of segments node) segment) found
  first_alike None none = λ place is. none place (from place is)
  first_alike (Some place) (is, first) = (to place is, λ other at. first other (from other at))
