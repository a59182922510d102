-- Visits grow by what is visited, and reach what is led to.
use Rattle.std.proofs.Common.{◌≡◌, ◌<◌, ℕ, ◌⊎◌, inl, inr, List, [], ◌∷◌, ◌++◌, ◌≤◌, ◌+◌, length, get_or, take, Option, Some, refl, sym, ap, subst, ◌∙◌, arith}
use Rattle.std.specs.List.{flat_map, slice_get}
use Rattle.std.proofs.lemmas.List.{take_more, map-append, append-nil}
use Rattle.std.proofs.lemmas.Grind.{flat_map-append}
use Rattle.std.proofs.lemmas.Bool.{cases_order}
use Rattle.flux_model.specs.declared.programs.NodeNo.{NodeNo}
use Rattle.flux_model.specs.declared.programs.HandleArm.{HandleArm}
use Rattle.flux_model.specs.Leading.{handlers_of}
use Rattle.flux_model.specs.Children.{IsIn}
use Rattle.flux_plan.specs.declared.plans.Segment.{Segment}
use Rattle.flux_plan.specs.declared.plans.Instr.{Instr}
use Rattle.flux_plan.specs.Leading.{led_by, leads_from, IsWay}
use Rattle.flux_model.specs.Visits.{IsKnown, with_number, with_all}
use Rattle.flux_verify.specs.steps.Visits.{leads_at, IsReachedFrom, IsReaching, IsReach}
use Rattle.flux_model.proofs.Visiting.{all_more, all_new, all_or, place_all, known_place, place_known, at_place}
use Rattle.flux_plan.proofs.Placing.{reaches_on}

-- ---- reaching

some_same : (x y : ℕ) → ◌≡◌ {A = Option ℕ} (Some x) (Some y) → x ≡ y
some_same x y e = cc

module _ (segments : List Segment) (starts : List NodeNo) where
  pub reaching_begun : IsReaching segments starts (with_all [] starts) 0
  reaching_begun = record {
    each = λ x known. from x (all_or x [] starts known);
    begun = λ x is. all_new x [] starts is;
    closed = λ i at led below is on. absurd (omega (arith, below));
  }
    where
      from : (x : ℕ) → IsKnown x [] ⊎ IsIn x starts → IsReachedFrom segments starts x
      from x (inl known) = absurd cc
      from x (inr is) = record { start = x; among = is; reaches = record { between = []; way = refl } }

  on_from : (x led : ℕ) → IsReachedFrom segments starts x → IsIn led (leads_from segments x) → IsReachedFrom segments starts led
  on_from x led from is = record { start = from.start; among = from.among; reaches = reaches_on segments from.start x led from.reaches is }

  -- a place more, after all that its number leads to was visited
  pub reaching_more : (visits : List ℕ) (place : ℕ) → place < length visits → IsReaching segments starts visits place
      → IsReaching segments starts (with_all visits (leads_at segments (slice_get visits place))) (place + 1)
  reaching_more visits place lt so_far = at (at_place visits place lt)
    where
      at : (x : ℕ) × (slice_get visits place ≡ Some x) → IsReaching segments starts (with_all visits (leads_at segments (slice_get visits place))) (place + 1)
      at (x, own) = rw own (record {
        each = λ y known. from y (all_or y visits led known);
        begun = λ y is. all_more y visits led (so_far.begun y is);
        closed = closed;
      })
        where
          led : List NodeNo
          led = leads_from segments x

          from : (y : ℕ) → IsKnown y visits ⊎ IsIn y led → IsReachedFrom segments starts y
          from y (inl known) = so_far.each y known
          from y (inr is) = on_from x y (so_far.each x (place_known visits place x own)) is

          closed : (i y to : ℕ) → i < place + 1 → slice_get (with_all visits led) i ≡ Some y → IsIn to (leads_from segments y) → IsKnown to (with_all visits led)
          closed i y to below here is = two (at_place visits i (omega (arith, below, lt))) (cases_order i place)
            where
              two : (w : ℕ) × (slice_get visits i ≡ Some w) → (i ≡ place) ⊎ ((i < place) ⊎ (place < i)) → IsKnown to (with_all visits led)
              two (w, there) order = three (subst (λ (m : ℕ). IsIn to (leads_from segments m)) (some_same y w (sym here ∙ place_all visits led i w there)) is) order
                where
                  three : IsIn to (leads_from segments w) → (i ≡ place) ⊎ ((i < place) ⊎ (place < i)) → IsKnown to (with_all visits led)
                  three led_on (inl e) = all_new to visits led (subst (λ (m : ℕ). IsIn to (leads_from segments m)) (some_same w x (sym there ∙ ap (slice_get visits) e ∙ own)) led_on)
                  three led_on (inr (inl before)) = all_more to visits led (so_far.closed i w to before there led_on)
                  three led_on (inr (inr past)) = absurd (omega (arith, past, below))

  -- at its end all that is reached has been visited
  pub reaching_all : (visits : List ℕ) (place : ℕ) → length visits ≤ place → IsReaching segments starts visits place → IsReach segments starts visits
  reaching_all visits place over so_far = record {
    each = so_far.each;
    all = λ x from. let reach = from.reaches in on_way from.start reach.between x (so_far.begun from.start from.among) reach.way;
  }
    where
      on : (x led : ℕ) → IsKnown x visits → IsIn led (leads_from segments x) → IsKnown led visits
      on x led known is = let s = known_place visits x known in so_far.closed s.place x led (omega (arith, s.within, over)) s.is is

      on_way : (x : ℕ) (others : List ℕ) (to : ℕ) → IsKnown x visits → IsWay segments x others to → IsKnown to visits
      on_way x [] to known same = subst (λ (m : ℕ). IsKnown m visits) same known
      on_way x (next ∷ others) to known (is, way) = on_way next others to (on x next known is) way

-- ---- code

with_all-append : (v : List ℕ) (a b : List NodeNo) → with_all v (a ++ b) ≡ with_all (with_all v a) b
with_all-append v [] b = refl
with_all-append v (n ∷ a) b = with_all-append (with_number v n.0) a b

-- an instruction more of what is led to
pub code_more : (v so_far new : List ℕ) (code : List Instr) (i : ℕ) (x : Instr) → i < length code → x ≡ get_or code i x
    → so_far ≡ with_all v (flat_map led_by (take i code)) → new ≡ with_all so_far (led_by x) → new ≡ with_all v (flat_map led_by (take (i + 1) code))
code_more v so_far new code i x lt is before e =
    e ∙ ap (λ (u : List ℕ). with_all u (led_by x)) before ∙ one (get_or code i x) (sym is) ∙ sym (ap (λ (xs : List Instr). with_all v (flat_map led_by xs)) (take_more code i x lt))
  where
    one : (y : Instr) → y ≡ x → with_all (with_all v (flat_map led_by (take i code))) (led_by x) ≡ with_all v (flat_map led_by (take i code ++ y ∷ []))
    one y same =
        let last : flat_map led_by (y ∷ []) ≡ led_by x = append-nil (led_by y) ∙ ap led_by same in
        let all = flat_map-append led_by (take i code) (y ∷ []) ∙ ap (λ (l : List NodeNo). flat_map led_by (take i code) ++ l) last in
        sym (ap (with_all v) all ∙ with_all-append v (flat_map led_by (take i code)) (led_by x))

-- an arm more of the handlers
pub arms_more : (v so_far new : List ℕ) (arms : List HandleArm) (i : ℕ) (x : HandleArm) → i < length arms → x ≡ get_or arms i x
    → so_far ≡ with_all v (handlers_of (take i arms)) → new ≡ with_number so_far x.node.0 → new ≡ with_all v (handlers_of (take (i + 1) arms))
arms_more v so_far new arms i x lt is before e =
    e ∙ ap (λ (u : List ℕ). with_number u x.node.0) before ∙ one (get_or arms i x) (sym is) ∙ sym (ap (λ (xs : List HandleArm). with_all v (handlers_of xs)) (take_more arms i x lt))
  where
    one : (y : HandleArm) → y ≡ x → with_number (with_all v (handlers_of (take i arms))) x.node.0 ≡ with_all v (handlers_of (take i arms ++ y ∷ []))
    one y same =
        let all = map-append (λ (arm : HandleArm). arm.node) (take i arms) (y ∷ []) ∙ ap (λ (arm : HandleArm). handlers_of (take i arms) ++ arm.node ∷ []) same in
        sym (ap (with_all v) all ∙ with_all-append v (handlers_of (take i arms)) (x.node ∷ []))
