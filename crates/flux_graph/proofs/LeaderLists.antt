-- For each node those that lead to it, as they are gathered.
use Rattle.std.proofs.Common.{◌≡◌, ◌<◌, ◌≤◌, ◌+◌, ℕ, ◌⊎◌, inl, inr, List, [], ◌∷◌, ◌++◌, length, get_or, refl, sym, ap, subst, ◌∙◌, arith, Option, Some}
use Rattle.std.proofs.Math.Nat.{eq-or-lt_of_le}
use Rattle.std.proofs.lemmas.Bool.{cases_lt, cases_order}
use Rattle.std.proofs.lemmas.List.{length-set, set_past, get_or-set_same, get_or-set_other}
use Rattle.std.proofs.lemmas.Option.{slice_get-get_or}
use Rattle.flux_model.specs.declared.programs.NodeNo.{NodeNo}
use Rattle.flux_model.specs.declared.programs.Node.{Node}
use Rattle.flux_model.specs.Leading.{leads_to, leads_in, numbers_of}
use Rattle.flux_model.specs.Children.{IsIn}
use Rattle.flux_model.proofs.NodeLists.{in_front, in_behind, in_either}
use Rattle.flux_model.proofs.LeadingLemmas.{leads-within}
use Rattle.flux_graph.specs.steps.Leaders.{leaders_at, with_leader, LeadsToAll, HaveLeaders}

-- who leads to a node still does once one more leads to some node
kept_put : (leaders : List (List NodeNo)) (number : ℕ) (node : NodeNo) (from to : ℕ)
    → IsIn from (leaders_at leaders to) → IsIn from (leaders_at (with_leader leaders number node) to)
kept_put leaders number node from to is = place (cases_order to number)
  where
    more : List NodeNo
    more = get_or leaders number [] ++ node ∷ []

    beside : (to ≡ number → ⊥) → IsIn from (leaders_at (with_leader leaders number node) to)
    beside apart = subst (IsIn from) (sym (get_or-set_other leaders number to more [] apart)) is

    own : to ≡ number → (number < length leaders) ⊎ (length leaders ≤ number)
        → IsIn from (leaders_at (with_leader leaders number node) number)
    own same (inl within) =
        subst (IsIn from) (sym (get_or-set_same leaders number more [] within))
        (in_front from (get_or leaders number []) (node ∷ []) (subst (λ (n : ℕ). IsIn from (get_or leaders n [])) same is))
    own same (inr past) =
        subst (λ (lists : List (List NodeNo)). IsIn from (get_or lists number [])) (sym (set_past leaders number more past))
        (subst (λ (n : ℕ). IsIn from (get_or leaders n [])) same is)

    place : (to ≡ number) ⊎ ((to < number) ⊎ (number < to)) → IsIn from (leaders_at (with_leader leaders number node) to)
    place (inl same) =
        subst (λ (n : ℕ). IsIn from (leaders_at (with_leader leaders number node) n)) (sym same)
        (own same (cases_lt number (length leaders)))
    place (inr (inl low)) = beside (λ (same : to ≡ number). omega (arith, low, same))
    place (inr (inr high)) = beside (λ (same : to ≡ number). omega (arith, high, same))

-- none has been added to those that lead to no nodes
pub leads_none : (node : NodeNo) (leaders : List (List NodeNo)) → LeadsToAll node [] leaders leaders
leads_none node leaders = record { many = refl; kept = λ from to is. is; added = λ to lt is. absurd is }

-- one node more that is led to
pub leads_next : (node number : NodeNo) (led : List NodeNo) (before mid : List (List NodeNo))
    → LeadsToAll node led before mid → LeadsToAll node (led ++ number ∷ []) before (with_leader mid number.0 node)
leads_next node number led before mid all = record {
  many = length-set mid number.0 (get_or mid number.0 [] ++ node ∷ []) ∙ all.many;
  kept = λ from to is. kept_put mid number.0 node from to (all.kept from to is);
  added = λ to lt is. one to lt (in_either to led (number ∷ []) is);
}
  where
    one : (to : ℕ) → to < length before → IsIn to led ⊎ IsIn to (number ∷ [])
        → IsIn node.0 (leaders_at (with_leader mid number.0 node) to)
    one to lt (inl is) = kept_put mid number.0 node node.0 to (all.added to lt is)
    one to lt (inr (inl same)) =
        let many = all.many in
        let within : number.0 < length mid = omega (arith, lt, same, many) in
        subst (λ (n : ℕ). IsIn node.0 (leaders_at (with_leader mid number.0 node) n)) (sym same)
        (subst (IsIn node.0) (sym (get_or-set_same mid number.0 (get_or mid number.0 [] ++ node ∷ []) [] within))
        (in_behind node.0 (get_or mid number.0 []) (node ∷ []) (inl refl)))
    one to lt (inr (inr none)) = absurd none

-- each of the nodes below a count is among those that lead to what it leads to
abbrev pub HaveFirst : List Node → ℕ → List (List NodeNo) → Type 0
HaveFirst nodes count leaders = (from to : ℕ) → from < count → to < length nodes
    → IsIn to (leads_in nodes from) → IsIn from (leaders_at leaders to)

-- so is one node more
pub first_next : (nodes : List Node) (count : ℕ) (node : Node) (led : List NodeNo) (before after : List (List NodeNo))
    → count < length nodes → node ≡ get_or nodes count node → led ≡ leads_to node → length before ≡ length nodes
    → HaveFirst nodes count before → LeadsToAll (record { 0 = count }) led before after → HaveFirst nodes (count + 1) after
first_next nodes count node led before after lt at is many have all from to less below leads =
    one (eq-or-lt_of_le (omega (arith, less)))
  where
    same : leads_in nodes count ≡ led
    same = ap (numbers_of leads_to) (slice_get-get_or nodes count node lt) ∙ ap leads_to (sym at) ∙ sym is

    one : (from ≡ count) ⊎ (from < count) → IsIn from (leaders_at after to)
    one (inl own) =
        subst (λ (n : ℕ). IsIn n (leaders_at after to)) (sym own)
        (all.added to (omega (arith, below, many)) (subst (IsIn to) same (subst (λ (n : ℕ). IsIn to (leads_in nodes n)) own leads)))
    one (inr low) = all.kept from to (have from to low below leads)

-- and so are all
pub first_end : (nodes : List Node) (count : ℕ) (leaders : List (List NodeNo)) → length nodes ≤ count
    → HaveFirst nodes count leaders → HaveLeaders nodes leaders
first_end nodes count leaders past have from to below leads =
    have from to (omega (arith, past, leads-within nodes from to leads)) below leads
