-- Costs with commas between them: they are read one way.
use Rattle.std.proofs.Common.{◌≡◌, ℕ, zero, suc, ◌+◌, ◌<◌, ◌≤◌, List, [], ◌∷◌, ◌++◌, length, take, get_or, refl, sym, ap, ◌∙◌, subst, arith}
use Rattle.std.specs.List.{slice_index, slice_split}
use Rattle.std.proofs.lemmas.List.{take_more, take_all, length_push}
use Rattle.flux_cli.specs.declared.costs.TheConstants.{PROCESSOR_LIMIT, COST_LIMIT, COSTS_LIMIT}
use Rattle.flux_cli.specs.Values.{is_comma, SpellsNumber}
use Rattle.flux_cli.specs.Costs.{IsProcessors, SpellEachCost, SpellsCosts, AreCosts}
use Rattle.flux_cli.specs.steps.Found.{AreCostsSoFar}
use Rattle.flux_cli.proofs.Numbers.{one_number}

pub one_processors : (vs : List (List ℕ)) (a b : ℕ) → IsProcessors vs a → IsProcessors vs b → a ≡ b
one_processors [] a b x y = absurd x
one_processors (v ∷ []) a b x y = one_number 1 PROCESSOR_LIMIT v a b x y
one_processors (v ∷ w ∷ vs) a b x y = absurd x

one_list : (pieces : List (List ℕ)) (xs ys : List ℕ) → SpellEachCost pieces xs → SpellEachCost pieces ys → xs ≡ ys
one_list [] [] [] s t = refl
one_list [] [] (y ∷ ys) s t = absurd t
one_list [] (x ∷ xs) ys s t = absurd s
one_list (digits ∷ pieces) [] ys s t = absurd s
one_list (digits ∷ pieces) (x ∷ xs) [] s t = absurd t
one_list (digits ∷ pieces) (x ∷ xs) (y ∷ ys) s t =
    ap (λ (c : ℕ). c ∷ xs) (one_number 1 COST_LIMIT digits x y s.0 t.0) ∙ ap
    (λ (l : List ℕ). y ∷ l) (one_list pieces xs ys s.1 t.1)

pub one_costs : (vs : List (List ℕ)) (a b : List ℕ) → AreCosts vs a → AreCosts vs b → a ≡ b
one_costs [] a b x y = x ∙ sym y
one_costs (v ∷ []) a b x y = one_list (slice_split is_comma v) a b x.each y.each
one_costs (v ∷ w ∷ vs) a b x y = absurd x

-- one cost for each piece
same_many : (pieces : List (List ℕ)) (costs : List ℕ) → SpellEachCost pieces costs → length costs ≡ length pieces
same_many [] [] s = refl
same_many [] (cost ∷ costs) s = absurd s
same_many (digits ∷ pieces) [] s = absurd s
same_many (digits ∷ pieces) (cost ∷ costs) s = ap suc (same_many pieces costs s.1)

each_more : (pieces : List (List ℕ)) (xs : List ℕ) (digits : List ℕ) (y : ℕ) → SpellEachCost pieces xs
    → SpellsNumber 1 COST_LIMIT digits y
    → SpellEachCost (pieces ++ digits ∷ []) (xs ++ y ∷ [])
each_more [] [] digits y s t = (t, tt)
each_more [] (x ∷ xs) digits y s t = absurd s
each_more (piece ∷ pieces) [] digits y s t = absurd s
each_more (piece ∷ pieces) (x ∷ xs) digits y s t = (s.0, each_more pieces xs digits y s.1 t)

pub no_costs_yet : (list : List ℕ) → AreCostsSoFar list 0 []
no_costs_yet list = record { each = tt; many = refl; few = omega arith }

pub cost_more : (list : List ℕ) (n : ℕ) (digits costs new : List ℕ) (cost : ℕ) → AreCostsSoFar list n costs
    → (n < length (slice_split is_comma list)) × (digits ≡ get_or (slice_split is_comma list) n digits)
    → (length costs ≡ COSTS_LIMIT → ⊥)
    → SpellsNumber 1 COST_LIMIT digits cost → new ≡ costs ++ cost ∷ [] → AreCostsSoFar list (n + 1) new
cost_more list n digits costs new cost so at room spells new_ =
    let pieces = slice_split is_comma list in
    let one_more : take (n + 1) pieces ≡ take n pieces ++ digits ∷ [] =
    take_more pieces n digits at.0 ∙ ap (λ (l : List ℕ). take n pieces ++ l ∷ []) (sym at.1) in
    let own : AreCostsSoFar list (n + 1) (costs ++ cost ∷ []) = record {
      each = subst
          (λ (ps : List (List ℕ)). SpellEachCost ps (costs ++ cost ∷ [])) (sym one_more) (each_more (take n pieces)
          costs digits cost so.each spells);
      many = omega (arith, length_push costs cost, so.many);
      few = omega (arith, so.few, so.many, λ (e : length costs ≡ COSTS_LIMIT). room e);
    } in
    subst (AreCostsSoFar list (n + 1)) (sym new_) own

pub all_costs : (list : List ℕ) (n : ℕ) (costs : List ℕ) → AreCostsSoFar list n costs
    → n ≡ length (slice_split is_comma list) → SpellsCosts list costs
all_costs list n costs so end = record {
  each = subst
      (λ (ps : List (List ℕ)). SpellEachCost ps costs) (take_all n (slice_split is_comma list) (omega (arith, end)))
      so.each;
  few = omega (arith, so.few, so.many);
}

-- past the limit there is a piece too many
pub too_many : (list : List ℕ) (n : ℕ) (so_far : List ℕ) → AreCostsSoFar list n so_far
    → n < length (slice_split is_comma list)
    → length so_far ≡ COSTS_LIMIT → (costs : List ℕ) → SpellsCosts list costs → ⊥
too_many list n so_far so more full costs spells =
    omega (arith, so.many, full, more, same_many (slice_split is_comma list) costs spells.each, spells.few)

-- where a piece spells no cost, the pieces spell none
no_piece : (pieces : List (List ℕ)) (costs : List ℕ) (n : ℕ) (digits : List ℕ) → n < length pieces
    → digits ≡ get_or pieces n digits → ((cost : ℕ) → SpellsNumber 1 COST_LIMIT digits cost → ⊥)
    → SpellEachCost pieces costs → ⊥
no_piece [] costs n digits lt is none spell = absurd (omega (arith, lt))
no_piece (piece ∷ pieces) [] n digits lt is none spell = spell
no_piece (piece ∷ pieces) (cost ∷ costs) zero digits lt is none spell =
    none cost (subst (λ (d : List ℕ). SpellsNumber 1 COST_LIMIT d cost) (sym is) spell.0)
no_piece (piece ∷ pieces) (cost ∷ costs) (suc n) digits lt is none spell =
    no_piece pieces costs n digits (omega (arith, lt)) is none spell.1

pub no_costs : (list : List ℕ) (n : ℕ) (digits : List ℕ)
    → (n < length (slice_split is_comma list)) × (digits ≡ get_or (slice_split is_comma list) n digits)
    → ((cost : ℕ) → SpellsNumber 1 COST_LIMIT digits cost → ⊥) → (costs : List ℕ) → SpellsCosts list costs → ⊥
no_costs list n digits at none costs spells = no_piece (slice_split is_comma list) costs n digits at.0 at.1 none
    spells.each

-- each cost that is spelled is within its limits
costs_within : (pieces : List (List ℕ)) (costs : List ℕ) → SpellEachCost pieces costs → (place : ℕ)
    → place < length costs
    → (1 ≤ slice_index costs place) × (slice_index costs place ≤ 1000)
costs_within pieces [] spell place lt = absurd (omega (arith, lt))
costs_within [] (cost ∷ costs) spell place lt = absurd spell
costs_within (piece ∷ pieces) (cost ∷ costs) spell zero lt = let own = spell.0 in (own.from, own.to)
costs_within (piece ∷ pieces) (cost ∷ costs) spell (suc place) lt = costs_within pieces costs spell.1 place (omega
    (arith, lt))

pub so_far_within : (list : List ℕ) (n : ℕ) (costs : List ℕ) → AreCostsSoFar list n costs → (place : ℕ)
    → place < length costs
    → (1 ≤ slice_index costs place) × (slice_index costs place ≤ 1000)
so_far_within list n costs so = costs_within (take n (slice_split is_comma list)) costs so.each
