-- The names of sources, as a set of borrowed names has them.
use Rattle.std.proofs.Common.{◌≡◌, ℕ, ◌+◌, ◌<◌, Bool, true, false, List, [], ◌∷◌, ◌++◌, length, take, get_or, Some, refl, sym, ap, ◌∙◌, arith}
use Rattle.std.specs.List.{list_any, slice_get}
use Rattle.std.specs.Str.{bytes_eq}
use Rattle.std.proofs.lemmas.List.{get_or-take, length-take, take_more}
use Rattle.std.proofs.lemmas.List.Folds.{Any-from_list_any}
use Rattle.std.proofs.lemmas.Option.{slice_get-get_or, slice_get_within, slice_get_read}
use Rattle.std.proofs.lemmas.Slice.Eq.{bytes_eq-Decides}
use Rattle.flux_items.specs.declared.rules.ItemRules.{ItemRules}
use Rattle.flux_items.specs.Rules.{IsNamed, AreRules}

-- a source's name isn't among those before it
pub not_before : (rules : ItemRules) → AreRules rules → (k : ℕ) (name : List ℕ) → IsNamed rules k name → list_any (bytes_eq name) (take k rules.names) ≡ false
not_before rules are k name named = one (list_any (bytes_eq name) (take k rules.names)) refl
  where
    one : (t : Bool) → list_any (bytes_eq name) (take k rules.names) ≡ t → list_any (bytes_eq name) (take k rules.names) ≡ false
    one false e = e
    one true e =
        let w = Any-from_list_any (bytes_eq name) (take k rules.names) e in
        let lt : w.0 < k = omega (arith, w.2, length-take k rules.names, slice_get_within rules.names k name named) in
        let same : name ≡ w.1 = (bytes_eq-Decides name w.1).0 w.4 in
        let is : get_or rules.names w.0 w.1 ≡ w.1 = sym (get_or-take k rules.names w.0 w.1 lt) ∙ w.3 in
        let there : IsNamed rules w.0 name = slice_get-get_or rules.names w.0 w.1 (omega (arith, lt, slice_get_within rules.names k name named)) ∙ ap Some (is ∙ sym same) in
        let at : w.0 ≡ k = are.apart w.0 k name there named in
        absurd (omega (arith, at, lt))

-- a name more of those in a slice
pub named_more : (rules : ItemRules) → AreRules rules → (items names new : List (List ℕ)) (k : ℕ) (x b : List ℕ) → items ≡ rules.names → names ≡ take k items → k < length items → x ≡ get_or items k x → b ≡ x
    → (list_any (bytes_eq b) names ≡ false → new ≡ names ++ b ∷ []) → new ≡ take (k + 1) items
named_more rules are items names new k x b same so_far lt is bytes add =
    let at : slice_get items k ≡ Some b = slice_get_read items (length items) k x refl lt is ∙ ap Some (sym bytes) in
    let named : IsNamed rules k b = ap (λ (l : List (List ℕ)). slice_get l k) (sym same) ∙ at in
    let apart : list_any (bytes_eq b) names ≡ false = ap (list_any (bytes_eq b)) (so_far ∙ ap (take k) same) ∙ not_before rules are k b named in
    add apart ∙ ap (λ (l : List (List ℕ)). l ++ b ∷ []) so_far ∙ ap (λ (y : List ℕ). take k items ++ y ∷ []) (bytes ∙ is) ∙ sym (take_more items k x lt)
