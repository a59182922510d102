-- The names of nodes, as a set of borrowed names has them.
use Rattle.std.proofs.Common.{◌≡◌, inl, inr, ℕ, ◌+◌, ◌<◌, ◌≤◌, Bool, true, false, List, [], ◌∷◌, ◌++◌, length, take, get_or, Some, refl, sym, ap, ◌∙◌, subst, arith}
use Rattle.std.specs.List.{list_any, slice_get}
use Rattle.std.specs.Option.{option_map}
use Rattle.std.specs.Str.{bytes_eq}
use Rattle.std.proofs.lemmas.Bool.{cases_order}
use Rattle.std.proofs.lemmas.List.{get_or-take, length-take, length-map, take_more}
use Rattle.std.proofs.lemmas.List.Folds.{Any-from_list_any}
use Rattle.std.proofs.lemmas.Option.{slice_get-get_or, slice_get-map, slice_get_within, slice_get_read}
use Rattle.std.proofs.lemmas.Slice.Eq.{bytes_eq-Decides}
use Rattle.flux_model.specs.declared.programs.Node.{Node}
use Rattle.flux_model.specs.declared.programs.Class.{Class}
use Rattle.flux_model.specs.Names.{AreNamedApart}
use Rattle.flux_journal.specs.steps.Named.{names_in, NoneBefore}

-- a node's name isn't among those before it
not_before : (nodes : List Node) → AreNamedApart nodes → (k : ℕ) (node : Node) → slice_get nodes k ≡ Some node → list_any (bytes_eq node.name) (take k (names_in nodes)) ≡ false
not_before nodes apart k node at = one (list_any (bytes_eq node.name) (take k (names_in nodes))) refl
  where
    one : (t : Bool) → list_any (bytes_eq node.name) (take k (names_in nodes)) ≡ t → list_any (bytes_eq node.name) (take k (names_in nodes)) ≡ false
    one false e = e
    one true e =
        let w = Any-from_list_any (bytes_eq node.name) (take k (names_in nodes)) e in
        let within = slice_get_within nodes k node at in
        let lt : w.0 < k = omega (arith, w.2, length-take k (names_in nodes), length-map nodes (λ (n : Node). n.name), within) in
        let same : node.name ≡ w.1 = (bytes_eq-Decides node.name w.1).0 w.4 in
        let is : get_or (names_in nodes) w.0 w.1 ≡ w.1 = sym (get_or-take k (names_in nodes) w.0 w.1 lt) ∙ w.3 in
        let other = get_or nodes w.0 node in
        let there : slice_get nodes w.0 ≡ Some other = slice_get-get_or nodes w.0 node (omega (arith, lt, within)) in
        let named : slice_get (names_in nodes) w.0 ≡ Some other.name = slice_get-map (λ (n : Node). n.name) nodes w.0 ∙ ap (option_map (λ (n : Node). n.name)) there in
        let read : slice_get (names_in nodes) w.0 ≡ Some w.1 = slice_get-get_or (names_in nodes) w.0 w.1 (omega (arith, lt, length-map nodes (λ (n : Node). n.name), within)) ∙ ap Some is in
        let both : Some other.name ≡ Some w.1 = sym named ∙ read in
        let alike : other.name ≡ node.name = cc in
        let at_k : w.0 ≡ k = apart w.0 k other node there at alike in
        absurd (omega (arith, at_k, lt))

-- a name more of those of nodes
pub named_more : (nodes : List Node) → AreNamedApart nodes → (names new : List (List ℕ)) (k : ℕ) (node : Node) (b : List ℕ) → names ≡ take k (names_in nodes) → k < length nodes → node ≡ get_or nodes k node → b ≡ node.name
    → (list_any (bytes_eq b) names ≡ false → new ≡ names ++ b ∷ []) → new ≡ take (k + 1) (names_in nodes)
named_more nodes apart names new k node b so_far lt is bytes add =
    let at : slice_get nodes k ≡ Some node = slice_get_read nodes (length nodes) k node refl lt is in
    let new_ : list_any (bytes_eq b) names ≡ false = ap (λ (n : List ℕ). list_any (bytes_eq n) names) bytes ∙ ap (list_any (bytes_eq node.name)) so_far ∙ not_before nodes apart k node at in
    let long : k < length (names_in nodes) = omega (arith, lt, length-map nodes (λ (n : Node). n.name)) in
    let named : slice_get (names_in nodes) k ≡ Some node.name = slice_get-map (λ (n : Node). n.name) nodes k ∙ ap (option_map (λ (n : Node). n.name)) at in
    let read : Some (get_or (names_in nodes) k b) ≡ Some node.name = sym (slice_get-get_or (names_in nodes) k b long) ∙ named in
    let same : get_or (names_in nodes) k b ≡ b = let e : get_or (names_in nodes) k b ≡ node.name = cc in e ∙ sym bytes in
    add new_ ∙ ap (λ (l : List (List ℕ)). l ++ b ∷ []) so_far ∙ ap (λ (y : List ℕ). take k (names_in nodes) ++ y ∷ []) (sym same) ∙ sym (take_more (names_in nodes) k b long)

-- ---- classes

-- one class more isn't it
pub none_more : (classes : List Class) (Is : Class → Type 0) (n : ℕ) (x : Class) → NoneBefore classes Is n → slice_get classes n ≡ Some x → (Is x → ⊥) → NoneBefore classes Is (n + 1)
none_more classes Is n x none at other place class lt there is = elim (cases_order place n) [
  | inl same ↦
      let e : Some class ≡ Some x = sym there ∙ ap (slice_get classes) same ∙ at in
      let one : class ≡ x = cc in
      other (subst Is one is)
  | inr differ ↦ elim differ [
    | inl less ↦ none place class less there is
    | inr more ↦ omega arith
  ]
]

-- none of all is it
pub none_of_all : (classes : List Class) (Is : Class → Type 0) (n : ℕ) → NoneBefore classes Is n → length classes ≤ n → (place : ℕ) (class : Class) → slice_get classes place ≡ Some class → Is class → ⊥
none_of_all classes Is n none all place class at is = none place class (omega (arith, slice_get_within classes place class at)) at is
