-- What has been visited is closed, and a node that leads to nothing else is on no cycle.
use Rattle.std.proofs.Common.{◌≡◌, ◌<◌, ◌≤◌, ◌+◌, ℕ, false, ◌⊎◌, inl, inr, List, [], ◌∷◌, ◌++◌, length, Option, Some, Result, Ok, Err, OnOk, sym, ap, subst, ◌∙◌, eqb, arith}
use Rattle.std.specs.List.{list_any, slice_get}
use Rattle.std.proofs.lemmas.Bool.{cases_order}
use Rattle.flux_model.specs.declared.programs.NodeNo.{NodeNo}
use Rattle.flux_model.specs.declared.programs.Node.{Node}
use Rattle.flux_model.specs.Leading.{leads_in}
use Rattle.flux_model.specs.Children.{IsIn}
use Rattle.flux_model.specs.Ordering.{IsLed, LeadsOn}
use Rattle.flux_model.specs.Visits.{IsKnown, with_number, with_all}
use Rattle.flux_graph.specs.steps.Clearing.{leads_at, AreClosed, AreOnNoCycle}
use Rattle.flux_model.proofs.Visiting.{known_or, known_more, all_more, all_new, place_number, place_all, Stands, known_place, place_known, at_place}
use Rattle.flux_graph.proofs.Moves.{not_known}

-- ---- visiting onward

-- what is led to from the numbers before a place has been visited
abbrev pub AreClosedBelow : List Node → List ℕ → ℕ → Type 0
AreClosedBelow nodes visits place = (i from led : ℕ) → i < place → slice_get visits i ≡ Some from → IsIn led (leads_in nodes from) → IsKnown led visits

some_same : (x y : ℕ) → ◌≡◌ {A = Option ℕ} (Some x) (Some y) → x ≡ y
some_same x y e = cc

-- a closed list stays closed below its end where a number is added
pub closed_first : (nodes : List Node) (v : List ℕ) (n : ℕ) → AreClosed nodes v → AreClosedBelow nodes (with_number v n) (length v)
closed_first nodes v n closed i from led lt at is = one (at_place v i lt)
  where
    one : (w : ℕ) × (slice_get v i ≡ Some w) → IsKnown led (with_number v n)
    one (w, here) =
        let same : w ≡ from = some_same w from (sym (place_number v n i w here) ∙ at) in
        known_more led v n (closed w led (place_known v i w here) (subst (λ (m : ℕ). IsIn led (leads_in nodes m)) (sym same) is))

-- a place more, after all that its number leads to was visited
pub closed_more : (nodes : List Node) (v : List ℕ) (place : ℕ) → place < length v → AreClosedBelow nodes v place → AreClosedBelow nodes (with_all v (leads_at nodes (slice_get v place))) (place + 1)
closed_more nodes v place lt closed i from led below at is = more (at_place v place lt)
  where
    more : (x : ℕ) × (slice_get v place ≡ Some x) → IsKnown led (with_all v (leads_at nodes (slice_get v place)))
    more (x, own) = rw own (two (at_place v i (omega (arith, below, lt))) (cases_order i place))
      where
        leads : List NodeNo
        leads = leads_in nodes x

        at_x : slice_get (with_all v (leads_in nodes x)) i ≡ Some from
        at_x = let h : slice_get (with_all v (leads_at nodes (Some x))) i ≡ Some from = rw own at at in h

        two : (w : ℕ) × (slice_get v i ≡ Some w) → (i ≡ place) ⊎ ((i < place) ⊎ (place < i)) → IsKnown led (with_all v (leads_in nodes x))
        two (w, here) order = three (subst (λ (m : ℕ). IsIn led (leads_in nodes m)) (some_same from w (sym at_x ∙ place_all v leads i w here)) is) order
          where
            three : IsIn led (leads_in nodes w) → (i ≡ place) ⊎ ((i < place) ⊎ (place < i)) → IsKnown led (with_all v (leads_in nodes x))
            three led_on (inl e) = all_new led v leads (subst (λ (m : ℕ). IsIn led (leads_in nodes m)) (some_same w x (sym here ∙ ap (slice_get v) e ∙ own)) led_on)
            three led_on (inr (inl before)) = all_more led v leads (closed i w led before here led_on)
            three led_on (inr (inr past)) = absurd (omega (arith, past, below))

-- what is closed below its end is closed
pub closed_last : (nodes : List Node) (v : List ℕ) (place : ℕ) → length v ≤ place → AreClosedBelow nodes v place → AreClosed nodes v
closed_last nodes v place over closed from led known is = one (known_place v from known)
  where
    one : Stands v from → IsKnown led v
    one s = closed s.place from led (omega (arith, s.within, over)) s.is is

-- ---- clearing

-- nothing leads on out of what is closed
stays_known : (nodes : List Node) (v : List ℕ) (from : ℕ) (between : List NodeNo) (to : ℕ) → AreClosed nodes v → IsKnown from v → IsLed nodes from (between ++ record { 0 = to } ∷ []) → IsKnown to v
stays_known nodes v from [] to closed known (is, more) = closed from to known is
stays_known nodes v from (m ∷ between) to closed known (is, more) = stays_known nodes v m.0 between to closed (closed from m.0 known is) more

on_no_cycle : (nodes : List Node) (v : List ℕ) (n : ℕ) → AreClosed nodes v → list_any (eqb n) v ≡ false → ((led : ℕ) → IsIn led (leads_in nodes n) → IsKnown led v) → LeadsOn nodes n n → ⊥
on_no_cycle nodes v n closed new leads on = not_known n v new (back on.between on.led)
  where
    back : (between : List NodeNo) → IsLed nodes n (between ++ record { 0 = n } ∷ []) → IsKnown n v
    back [] (is, more) = leads n is
    back (m ∷ between) (is, more) = stays_known nodes v m.0 between n closed (leads m.0 is) more

-- a new node that leads to nothing else than what was visited is on no cycle
pub cleared_more : (nodes : List Node) (v cleared : List ℕ) (n : ℕ) → AreClosed nodes v → list_any (eqb n) v ≡ false → ((led : ℕ) → IsIn led (leads_in nodes n) → IsKnown led v) → AreOnNoCycle nodes cleared → AreOnNoCycle nodes (with_number cleared n)
cleared_more nodes v cleared n closed new leads none x known on = from (known_or x cleared n known)
  where
    from : IsKnown x cleared ⊎ (x ≡ n) → ⊥
    from (inl k) = none x k on
    from (inr e) = on_no_cycle nodes v n closed new leads (subst (λ (m : ℕ). LeadsOn nodes m m) e on)

-- what follows from a fact of a good answer holds of it too
pub on_ok : {T E P Q : Type 0} (r : Result T E) → OnOk r P → (P → Q) → OnOk r Q
on_ok (Ok v) holds more = more holds
on_ok (Err e) holds more = holds
