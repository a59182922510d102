-- A table that is filled in an order has each node's value, where a value needs no more than those of the nodes that the
-- node leads to.
use Rattle.std.proofs.Common.{◌≡◌, ◌<◌, ℕ, Bool, true, false, eqb, ◌⊎◌, inl, inr, List, [], ◌∷◌, length, Some, refl, sym, subst, ◌∙◌, arith}
use Rattle.std.specs.List.{fold, slice_get}
use Rattle.std.proofs.lemmas.Bool.Decides.{nat_tests}
use Rattle.flux_model.specs.declared.programs.NodeNo.{NodeNo}
use Rattle.flux_model.specs.declared.programs.Node.{Node}
use Rattle.flux_model.specs.Children.{IsIn}
use Rattle.flux_model.specs.Leading.{leads_in}
use Rattle.flux_model.specs.Ordering.{ComeAfter, IsOrder}

-- what putting does: other places stay, and the node's place gets its value, where the nodes that it leads to have theirs
pub record Puts {X : Type 0} (value : ℕ → X) (nodes : List Node) (start : List X) (put : List X → NodeNo → List X) : Type 0 where
  pub many : (table : List X) (node : NodeNo) → length (put table node) ≡ length table
  pub beside : (table : List X) (node : NodeNo) (other : ℕ) → (other ≡ node.0 → ⊥) → slice_get (put table node) other ≡ slice_get table other
  pub own : (table : List X) (node : NodeNo) → node.0 < length nodes → length table ≡ length nodes → slice_get table node.0 ≡ slice_get start node.0
      → ((led : ℕ) → IsIn led (leads_in nodes node.0) → slice_get table led ≡ Some (value led)) → slice_get (put table node) node.0 ≡ Some (value node.0)

module _ {X : Type 0} (value : ℕ → X) (nodes : List Node) (start : List X) (put : List X → NodeNo → List X) (puts : Puts value nodes start put) where
  -- the nodes so far have their values, and elsewhere the table is as it was
  record Filled (before : List NodeNo) (table : List X) : Type 0 where
    many : length table ≡ length nodes
    known : (number : ℕ) → IsIn number before → slice_get table number ≡ Some (value number)
    rest : (number : ℕ) → (IsIn number before → ⊥) → slice_get table number ≡ slice_get start number

  filled_more : (before : List NodeNo) (table : List X) (node : NodeNo) → Filled before table → node.0 < length nodes → (IsIn node.0 before → ⊥)
      → ((led : ℕ) → IsIn led (leads_in nodes node.0) → IsIn led before) → Filled (node ∷ before) (put table node)
  filled_more before table node f below new leads = record {
    many = puts.many table node ∙ f.many;
    known = λ number is. one number (eqb number node.0) refl is;
    rest = λ number none. puts.beside table node number (λ e. none (inl e)) ∙ f.rest number (λ i. none (inr i));
  }
    where
      own : slice_get (put table node) node.0 ≡ Some (value node.0)
      own = puts.own table node below f.many (f.rest node.0 new) (λ led is. f.known led (leads led is))

      other : (number : ℕ) → (number ≡ node.0 → ⊥) → IsIn number (node ∷ before) → slice_get (put table node) number ≡ Some (value number)
      other number apart (inl e) = absurd (apart e)
      other number apart (inr i) = puts.beside table node number apart ∙ f.known number i

      one : (number : ℕ) (t : Bool) → eqb number node.0 ≡ t → IsIn number (node ∷ before) → slice_get (put table node) number ≡ Some (value number)
      one number true e is = subst (λ (n : ℕ). slice_get (put table node) n ≡ Some (value n)) (sym (let same : number ≡ node.0 = grind (arith, nat_tests, e) in same)) own
      one number false e is = other number (λ (same : number ≡ node.0). grind (arith, nat_tests, e, same)) is

  filled_all : (before order : List NodeNo) (table : List X) → ComeAfter nodes before order → Filled before table
      → (length (fold put table order) ≡ length nodes) × ((number : ℕ) → IsIn number order ⊎ IsIn number before → slice_get (fold put table order) number ≡ Some (value number))
  filled_all before [] table come f = (f.many, λ number is. one number is)
    where
      one : (number : ℕ) → IsIn number [] ⊎ IsIn number before → slice_get table number ≡ Some (value number)
      one number (inl is) = absurd is
      one number (inr is) = f.known number is
  filled_all before (node ∷ order) table (below, new, leads, come) f =
      let more = filled_all (node ∷ before) order (put table node) come (filled_more before table node f below new leads) in
      (more.0, λ number is. more.1 number (place number is))
    where
      place : (number : ℕ) → IsIn number (node ∷ order) ⊎ IsIn number before → IsIn number order ⊎ IsIn number (node ∷ before)
      place number (inl (inl e)) = inr (inl e)
      place number (inl (inr i)) = inl i
      place number (inr i) = inr (inr i)

  -- a filled table has a place for each node
  pub length-filled : (order : List NodeNo) → IsOrder nodes order → length start ≡ length nodes → length (fold put start order) ≡ length nodes
  length-filled order is many = (filled_all [] order start is.after (record { many = many; known = λ number i. absurd i; rest = λ number none. refl })).0

  -- each node's place in a filled table has its value
  pub slice_get-filled : (order : List NodeNo) → IsOrder nodes order → length start ≡ length nodes → (number : ℕ) → number < length nodes → slice_get (fold put start order) number ≡ Some (value number)
  slice_get-filled order is many number below = (filled_all [] order start is.after (record { many = many; known = λ n i. absurd i; rest = λ n none. refl })).1 number (inl (is.each number below))
