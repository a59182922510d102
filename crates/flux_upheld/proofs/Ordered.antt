-- Where leading has no cycle, the nodes have an order.
use Rattle.std.proofs.Common.{◌≡◌, ◌≢◌, ◌≤◌, ◌<◌, ◌+◌, ℕ, zero, suc, ◌⊎◌, inl, inr, Bool, true, false, ◌||◌, eqb, List, [], ◌∷◌, length, refl, sym, ap, subst, arith}
use Rattle.std.specs.List.{AllByRecursion, IsDistinct, list_any}
use Rattle.std.proofs.lemmas.Bool.{cases_eq, cases_lt, eqb-true, ne_eqb}
use Rattle.std.proofs.lemmas.Map.Steps.{length-le_from_distinct_below}
use Rattle.flux_model.specs.declared.programs.Node.{Node}
use Rattle.flux_model.specs.declared.programs.NodeNo.{NodeNo}
use Rattle.flux_model.specs.Children.{IsIn}
use Rattle.flux_model.specs.Leading.{leads_to, leads_in}
use Rattle.flux_model.specs.Numbered.{AreBelow}
use Rattle.flux_model.specs.Ordering.{ComeAfter, IsOrder, HasCycle}
use Rattle.flux_model.proofs.LeadingLemmas.{led-below_count}
use Rattle.flux_laws.proofs.Trails.{IsTrail, trail-start, trail-more, trail-short}
use Rattle.flux_laws.proofs.Reaching.{Leads, no-return}

-- ---- numbers of nodes

in-or_not : (x : ℕ) (nodes : List NodeNo) → IsIn x nodes ⊎ (IsIn x nodes → ⊥)
in-or_not x [] = inr (λ is. is)
in-or_not x (n ∷ nodes) = by (cases_eq x n.0) (in-or_not x nodes)
  where
    by : (x ≡ n.0) ⊎ (x ≡ n.0 → ⊥) → IsIn x nodes ⊎ (IsIn x nodes → ⊥) → IsIn x (n ∷ nodes) ⊎ (IsIn x (n ∷ nodes) → ⊥)
    by (inl same) rest = inl (inl same)
    by (inr apart) (inl is) = inl (inr is)
    by (inr apart) (inr none) = inr neither
      where
        neither : IsIn x (n ∷ nodes) → ⊥
        neither (inl same) = apart same
        neither (inr is) = none is

-- all of a list are in another, or there is one that isn't
abbrev AreAmong : List NodeNo → List NodeNo → Type 0
AreAmong nodes before = (x : ℕ) → IsIn x nodes → IsIn x before

among-or_not : (nodes before : List NodeNo) → AreAmong nodes before ⊎ ((x : ℕ) × IsIn x nodes × (IsIn x before → ⊥))
among-or_not [] before = inl (λ x is. absurd is)
among-or_not (n ∷ nodes) before = by (in-or_not n.0 before) (among-or_not nodes before)
  where
    all : IsIn n.0 before → AreAmong nodes before → AreAmong (n ∷ nodes) before
    all here rest x (inl same) = subst (λ (y : ℕ). IsIn y before) (sym same) here
    all here rest x (inr is) = rest x is

    by : IsIn n.0 before ⊎ (IsIn n.0 before → ⊥) → AreAmong nodes before ⊎ ((x : ℕ) × IsIn x nodes × (IsIn x before → ⊥)) → AreAmong (n ∷ nodes) before ⊎ ((x : ℕ) × IsIn x (n ∷ nodes) × (IsIn x before → ⊥))
    by (inr apart) rest = inr (n.0, inl refl, apart)
    by (inl here) (inl rest) = inl (all here rest)
    by (inl here) (inr (x, is, apart)) = inr (x, inr is, apart)

abbrev AreBefore : ℕ → List NodeNo → Type 0
AreBefore count before = (x : ℕ) → x < count → IsIn x before

before-or_not : (count : ℕ) (before : List NodeNo) → AreBefore count before ⊎ ((x : ℕ) × (x < count) × (IsIn x before → ⊥))
before-or_not zero before = inl (λ x lt. absurd (omega (arith, lt)))
before-or_not (suc count) before = by (in-or_not count before) (before-or_not count before)
  where
    all : IsIn count before → AreBefore count before → AreBefore (suc count) before
    all here rest x lt = one (cases_eq x count)
      where
        one : (x ≡ count) ⊎ (x ≡ count → ⊥) → IsIn x before
        one (inl same) = subst (λ (y : ℕ). IsIn y before) (sym same) here
        one (inr apart) = let ne : x ≢ count = apart in rest x (omega (arith, lt, ne))

    by : IsIn count before ⊎ (IsIn count before → ⊥) → AreBefore count before ⊎ ((x : ℕ) × (x < count) × (IsIn x before → ⊥)) → AreBefore (suc count) before ⊎ ((x : ℕ) × (x < suc count) × (IsIn x before → ⊥))
    by (inr apart) rest = inr (count, omega arith, apart)
    by (inl here) (inl rest) = inl (all here rest)
    by (inl here) (inr (x, lt, apart)) = inr (x, omega (arith, lt), apart)

-- ---- distinct numbers below a count are no more than it

abbrev numbers : List NodeNo → List ℕ
numbers [] = []
numbers (n ∷ nodes) = n.0 ∷ numbers nodes

length-numbers : (nodes : List NodeNo) → length (numbers nodes) ≡ length nodes
length-numbers [] = refl
length-numbers (n ∷ nodes) = ap suc (length-numbers nodes)

record AreFew (count : ℕ) (before : List NodeNo) : Type 0 where
  distinct : IsDistinct eqb (numbers before)
  within : (x : ℕ) → list_any (eqb x) (numbers before) ≡ true → x < count

none-few : (count : ℕ) → AreFew count []
unfolding IsDistinct
none-few count = record { distinct = tt; within = λ x any. absurd cc }

apart-all : (x : ℕ) (nodes : List NodeNo) → (IsIn x nodes → ⊥) → AllByRecursion (λ y. eqb x y ≡ false) (numbers nodes)
apart-all x [] apart = tt
apart-all x (n ∷ nodes) apart = (ne_eqb x n.0 (λ same. apart (inl same)), apart-all x nodes (λ is. apart (inr is)))

more-few : (count : ℕ) (node : NodeNo) (before : List NodeNo) → AreFew count before → node.0 < count → (IsIn node.0 before → ⊥) → AreFew count (node ∷ before)
unfolding IsDistinct
more-few count node before few lt apart = record { distinct = (apart-all node.0 before apart, few.distinct); within = λ x any. by x (eqb x node.0) refl any }
  where
    by : (x : ℕ) (t : Bool) → eqb x node.0 ≡ t → (t || list_any (eqb x) (numbers before)) ≡ true → x < count
    by x true e any = let same : x ≡ node.0 = eqb-true x node.0 e in omega (arith, same, lt)
    by x false e any = few.within x any

few-bound : (count : ℕ) (before : List NodeNo) → AreFew count before → length before ≤ count
few-bound count before few =
    let le = length-le_from_distinct_below (numbers before) count few.distinct few.within in
    let same = length-numbers before in
    omega (arith, le, same)

module _ (nodes : List Node) (numbered : AllByRecursion (λ node. AreBelow (length nodes) (leads_to node)) nodes) (acyclic : HasCycle nodes → ⊥) where
  abbrev count : ℕ
  count = length nodes

  -- a node that comes next: it isn't there yet, and all that it leads to is
  record ComesNext (before : List NodeNo) : Type 0 where
    next : ℕ
    within : next < count
    new : IsIn next before → ⊥
    led : (x : ℕ) → IsIn x (leads_in nodes next) → IsIn x before

  descend : (before : List NodeNo) (fuel number : ℕ) (visited : List ℕ) → number < count → (IsIn number before → ⊥) → IsTrail (Leads nodes) count visited number → count ≤ length visited + fuel → ComesNext before
  descend before zero number visited lt new trail enough =
      let short = trail-short (Leads nodes) count visited number trail in absurd (omega (arith, short, enough))
  descend before (suc fuel) number visited lt new trail enough = by (λ x below apart on. descend before fuel x (number ∷ visited) below apart on (omega (arith, enough))) (among-or_not (leads_in nodes number) before)
    where
      by : ((x : ℕ) → x < count → (IsIn x before → ⊥) → IsTrail (Leads nodes) count (number ∷ visited) x → ComesNext before) → AreAmong (leads_in nodes number) before ⊎ ((x : ℕ) × IsIn x (leads_in nodes number) × (IsIn x before → ⊥)) → ComesNext before
      by further (inl all) = record { next = number; within = lt; new = new; led = all }
      by further (inr (x, is, apart)) =
          let below = led-below_count count nodes number x numbered is in
          further x below apart (trail-more (Leads nodes) count visited number x (no-return nodes acyclic) trail is below)

  record IsGrown (before : List NodeNo) : Type 0 where
    order : List NodeNo
    after : ComeAfter nodes before order
    each : (x : ℕ) → x < count → IsIn x before ⊎ IsIn x order

  grow : (fuel : ℕ) (before : List NodeNo) → AreFew count before → count < length before + fuel → IsGrown before
  grow zero before few enough = let most = few-bound count before few in absurd (omega (arith, most, enough))
  grow (suc fuel) before few enough = by (λ node lt apart. grow fuel (node ∷ before) (more-few count node before few lt apart) (omega (arith, enough))) (before-or_not count before)
    where
      on : ((node : NodeNo) → node.0 < count → (IsIn node.0 before → ⊥) → IsGrown (node ∷ before)) → ComesNext before → IsGrown before
      on further free =
          let node : NodeNo = record { 0 = free.next } in
          let rest = further node free.within free.new in
          record { order = node ∷ rest.order; after = (free.within, free.new, free.led, rest.after); each = λ x lt. moved rest.order x (rest.each x lt) }
        where
          moved : (rest : List NodeNo) (x : ℕ) → IsIn x (record { 0 = free.next } ∷ before) ⊎ IsIn x rest → IsIn x before ⊎ IsIn x (record { 0 = free.next } ∷ rest)
          moved rest x (inl (inl same)) = inr (inl same)
          moved rest x (inl (inr is)) = inl is
          moved rest x (inr is) = inr (inr is)

      by : ((node : NodeNo) → node.0 < count → (IsIn node.0 before → ⊥) → IsGrown (node ∷ before)) → AreBefore count before ⊎ ((x : ℕ) × (x < count) × (IsIn x before → ⊥)) → IsGrown before
      by further (inl all) = record { order = []; after = tt; each = λ x lt. inl (all x lt) }
      by further (inr (x, lt, apart)) = on further (descend before count x [] lt apart (trail-start (Leads nodes) count x lt) (omega arith))

  -- the order that is found
  pub order-found : (order : List NodeNo) × IsOrder nodes order
  order-found =
      let grown = grow (suc count) [] (none-few count) (omega arith) in
      (grown.order, record { each = λ x lt. by grown.order x (grown.each x lt); after = grown.after })
    where
      by : (order : List NodeNo) (x : ℕ) → IsIn x [] ⊎ IsIn x order → IsIn x order
      by order x (inl is) = absurd is
      by order x (inr is) = is
