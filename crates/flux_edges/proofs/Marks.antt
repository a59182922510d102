-- Marks that are put in an order say which nodes need a session.
use Rattle.std.proofs.Common.{◌≡◌, ◌<◌, ◌≤◌, ℕ, zero, suc, Bool, true, false, ltb, List, [], ◌∷◌, length, replicate, slice_set, Option, Some, None, Result, Ok, Err, IfOk, refl, sym, ap, ◌∙◌, arith}
use Rattle.std.specs.List.{slice_get, fold}
use Rattle.std.specs.Option.{unwrap_or}
use Rattle.std.proofs.lemmas.Bool.Decides.{nat_tests}
use Rattle.std.proofs.lemmas.List.{length-set, length-replicate}
use Rattle.std.proofs.lemmas.Option.{slice_get_past}
use Rattle.flux_values.specs.declared.failures.Memory.{Memory}
use Rattle.flux_values.proofs.Sets.{get_put, get_beside}
use Rattle.flux_model.specs.declared.programs.Program.{Program}
use Rattle.flux_model.specs.declared.programs.NodeNo.{NodeNo}
use Rattle.flux_model.specs.declared.programs.Node.{Node}
use Rattle.flux_model.specs.Leading.{leads_to, leads_in}
use Rattle.flux_model.specs.Children.{IsIn}
use Rattle.flux_model.specs.Nested.{for_node, nested}
use Rattle.flux_model.specs.Ordering.{IsOrder}
use Rattle.flux_graph.proofs.Depths.{through-rule}
use Rattle.flux_graph.proofs.Fillings.{Puts, length-filled, slice_get-filled}
use Rattle.flux_edges.specs.Sessions.{needs_by, needs_session}
use Rattle.flux_edges.specs.Unserved.{IsNeeded}
use Rattle.flux_edges.specs.steps.Marking.{mark_at, put_found, put_mark}
use Rattle.flux_edges.proofs.Needs.{needs_look_down, needs_same, needs_from_needed}

some_node : (found : List Node) (number : ℕ) → number < length found → (node : Node) × (slice_get found number ≡ Some node)
some_node [] number below = absurd (omega (arith, below))
some_node (n ∷ found) zero below = (n, refl)
some_node (n ∷ found) (suc number) below = some_node found number (omega (arith, below))

module _ (p : Program) (order : List NodeNo) (is_order : IsOrder p.nodes order) where
  abbrev start : List Bool
  start = replicate (length p.nodes) false

  abbrev put : List Bool → NodeNo → List Bool
  put = put_mark p.classes p.nodes

  own_mark : (marks : List Bool) (number : ℕ) (node : Node) → number < length p.nodes → length marks ≡ length p.nodes → slice_get p.nodes number ≡ Some node
      → ((led : ℕ) → IsIn led (leads_in p.nodes number) → slice_get marks led ≡ Some (needs_session p led))
      → slice_get (slice_set marks number (needs_by p.classes (mark_at marks) number node)) number ≡ Some (needs_session p number)
  own_mark marks number node below size at filled =
      get_put marks number (needs_by p.classes (mark_at marks) number node) (omega (arith, size, below))
      ∙ ap Some (needs_same p.classes (mark_at marks) (needs_session p) number node (λ x is. ap (λ (m : Option Bool). unwrap_or m false) (filled x (rw at is)))
      ∙ sym (through-rule false (needs_by p.classes) (needs_look_down p.classes) p.nodes order is_order number node at))

  puts : Puts (needs_session p) p.nodes start put
  puts = record {
    many = λ marks node. size marks node.0 (slice_get p.nodes node.0);
    beside = λ marks node other apart. beside marks node.0 other apart (slice_get p.nodes node.0);
    own = λ marks node below size_ before filled.
        let found = some_node p.nodes node.0 below in
        ap (λ (n : Option Node). slice_get (put_found p.classes marks node.0 n) node.0) found.1 ∙ own_mark marks node.0 found.0 below size_ found.1 filled;
  }
    where
      size : (marks : List Bool) (number : ℕ) (found : Option Node) → length (put_found p.classes marks number found) ≡ length marks
      size marks number None = refl
      size marks number (Some node) = length-set marks number (needs_by p.classes (mark_at marks) number node)

      beside : (marks : List Bool) (number other : ℕ) → (other ≡ number → ⊥) → (found : Option Node) → slice_get (put_found p.classes marks number found) other ≡ slice_get marks other
      beside marks number other apart None = refl
      beside marks number other apart (Some node) = get_beside marks number other (needs_by p.classes (mark_at marks) number node) apart

  abbrev filled_marks : List Bool
  filled_marks = fold put start order

  past_needs : (depth number : ℕ) → slice_get p.nodes number ≡ None → nested false (needs_by p.classes) p.nodes depth number ≡ false
  past_needs zero number none = refl
  past_needs (suc depth) number none = ap (for_node false (needs_by p.classes (nested false (needs_by p.classes) p.nodes depth) number)) none

  mark_is : (number : ℕ) → mark_at filled_marks number ≡ needs_session p number
  mark_is number = one (ltb number (length p.nodes)) refl
    where
      many : length filled_marks ≡ length p.nodes
      many = length-filled (needs_session p) p.nodes start put puts order is_order (length-replicate (length p.nodes) false)

      one : (t : Bool) → ltb number (length p.nodes) ≡ t → mark_at filled_marks number ≡ needs_session p number
      one true e = ap (λ (m : Option Bool). unwrap_or m false) (slice_get-filled (needs_session p) p.nodes start put puts order is_order (length-replicate (length p.nodes) false) number (grind (arith, nat_tests, e)))
      one false e =
          let past : length p.nodes ≤ number = grind (arith, nat_tests, e) in
          ap (λ (m : Option Bool). unwrap_or m false) (slice_get_past filled_marks number (omega (arith, past, many)))
          ∙ sym (past_needs (length p.nodes) number (slice_get_past p.nodes number past))

  -- the marks are what nodes need
  pub marks_are : mark_at filled_marks ≡ needs_session p
  marks_are = λ i number. mark_is number i

  -- what marking answers
  pub marks_told : (result : Result (List Bool) Memory) → IfOk result (λ marks. marks ≡ filled_marks)
      → IfOk result (λ marks. (mark_at marks ≡ needs_session p) × ((node : ℕ) → IsNeeded p node → needs_session p node ≡ true))
  marks_told (Ok marks) is = (ap mark_at is ∙ marks_are, needs_from_needed p order is_order)
  marks_told (Err memory) is = tt
