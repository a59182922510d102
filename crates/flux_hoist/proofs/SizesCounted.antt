-- Sizes that are put node after node along an order are the sizes of the nodes, as they are counted.
use Rattle.std.proofs.Common.{◌≡◌, ◌<◌, ◌≤◌, ◌+◌, ◌*◌, ℕ, zero, suc, inl, inr, Bool, true, false, ltb, List, [], ◌∷◌, length, replicate, Option, Some, None, refl, sym, ap, ◌∙◌, arith}
use Rattle.std.specs.List.{fold, slice_get}
use Rattle.std.specs.Option.{unwrap_or}
use Rattle.std.proofs.lemmas.Bool.Decides.{nat_tests}
use Rattle.std.proofs.lemmas.List.{length-set}
use Rattle.std.proofs.lemmas.Option.{slice_get_past}
use Rattle.flux_values.proofs.Sets.{get_put, get_beside}
use Rattle.flux_model.specs.declared.programs.NodeNo.{NodeNo}
use Rattle.flux_model.specs.declared.programs.Node.{Node}
use Rattle.flux_model.specs.Leading.{leads_to, leads_in}
use Rattle.flux_model.specs.Children.{IsIn}
use Rattle.flux_model.specs.Nested.{for_node, nested, LooksDown}
use Rattle.flux_model.specs.Locks.{Holds}
use Rattle.flux_model.specs.Sizes.{sizes_of, size_by, size_of}
use Rattle.flux_model.specs.Ordering.{IsOrder}
use Rattle.flux_graph.proofs.Depths.{through-rule}
use Rattle.flux_graph.proofs.Fillings.{Puts, slice_get-filled, length-filled}
use Rattle.flux_hoist.specs.Counted.{capped, size_at, AreCounted}
use Rattle.flux_hoist.specs.steps.Sizing.{own_size, capped_sum, put_found, put_size, put_sizes}

capped_more : (total size t s : ℕ) → total ≡ capped t → size ≡ capped s → capped (total + size) ≡ capped (t + s)
capped_more total size t s a b = omega (arith, a, b)

sum_is : (table : List ℕ) (size : ℕ → ℕ) (total t : ℕ) (nodes : List NodeNo) → total ≡ capped t → ((led : ℕ) → IsIn led nodes → size_at table led ≡ capped (size led)) → capped_sum table total nodes ≡ capped (t + sizes_of size nodes)
sum_is table size total t [] is known = is ∙ ap capped (omega arith)
sum_is table size total t (node ∷ nodes) is known =
    sum_is table size (capped (total + size_at table node.0)) (t + size node.0) nodes (capped_more total (size_at table node.0) t (size node.0) is (known node.0 (inl refl))) (λ led i. known led (inr i))
    ∙ ap capped (omega arith)

-- a node's size depends on those of the nodes that it leads to
pub size_by-looks_down : (locks : Holds) → LooksDown (size_by locks)
size_by-looks_down locks f g number node agree = ap (λ (n : ℕ). 2 * length (locks number) + 3 + n) (same (leads_to node) agree)
  where
    same : (nodes : List NodeNo) → ((led : ℕ) → IsIn led nodes → f led ≡ g led) → sizes_of f nodes ≡ sizes_of g nodes
    same [] agree = refl
    same (n ∷ nodes) agree = let more = same nodes (λ led i. agree led (inr i)) in omega (arith, more, agree n.0 (inl refl))

some_node : (found : List Node) (number : ℕ) → number < length found → (node : Node) × (slice_get found number ≡ Some node)
some_node [] number below = absurd (omega (arith, below))
some_node (n ∷ found) zero below = (n, refl)
some_node (n ∷ found) (suc number) below = some_node found number (omega (arith, below))

zeros_many : (count : ℕ) → length (replicate {A = ℕ} count 0) ≡ count
zeros_many zero = refl
zeros_many (suc count) = ap suc (zeros_many count)

past_nested : (locks : Holds) (nodes : List Node) (depth number : ℕ) → slice_get nodes number ≡ None → nested 0 (size_by locks) nodes depth number ≡ 0
past_nested locks nodes zero number none = refl
past_nested locks nodes (suc depth) number none = ap (for_node 0 (size_by locks (nested 0 (size_by locks) nodes depth) number)) none

module _ (locks : Holds) (nodes : List Node) (order : List NodeNo) (is_order : IsOrder nodes order) where
  abbrev value : ℕ → ℕ
  value number = capped (size_of locks nodes number)

  size_put : (table : List ℕ) (number : ℕ) (node : Node) → number < length nodes → length table ≡ length nodes → slice_get nodes number ≡ Some node
      → ((led : ℕ) → IsIn led (leads_in nodes number) → slice_get table led ≡ Some (value led)) → slice_get (put_found locks table number (Some node)) number ≡ Some (value number)
  size_put table number node below many at known =
      get_put table number (capped_sum table (own_size locks number) (leads_to node)) (omega (arith, below, many))
      ∙ ap Some (sum_is table (size_of locks nodes) (own_size locks number) (2 * length (locks number) + 3) (leads_to node) refl (λ led is. ap (λ (s : Option ℕ). unwrap_or s 0) (known led (rw at is)))
      ∙ ap capped (sym (through-rule 0 (size_by locks) (size_by-looks_down locks) nodes order is_order number node at)))

  puts : Puts value nodes (replicate (length nodes) 0) (put_size locks nodes)
  puts = record {
    many = λ table node. many table node.0 (slice_get nodes node.0);
    beside = λ table node other apart. beside table node.0 other apart (slice_get nodes node.0);
    own = λ table node below size start known.
        let found = some_node nodes node.0 below in
        ap (λ (n : Option Node). slice_get (put_found locks table node.0 n) node.0) found.1 ∙ size_put table node.0 found.0 below size found.1 known;
  }
    where
      many : (table : List ℕ) (number : ℕ) (found : Option Node) → length (put_found locks table number found) ≡ length table
      many table number None = refl
      many table number (Some node) = length-set table number (capped_sum table (own_size locks number) (leads_to node))

      beside : (table : List ℕ) (number other : ℕ) → (other ≡ number → ⊥) → (found : Option Node) → slice_get (put_found locks table number found) other ≡ slice_get table other
      beside table number other apart None = refl
      beside table number other apart (Some node) = get_beside table number other (capped_sum table (own_size locks number) (leads_to node)) apart

  pub sizes_counted : AreCounted nodes locks (put_sizes locks nodes order)
  sizes_counted number = one (ltb number (length nodes)) refl
    where
      zeros : length (replicate {A = ℕ} (length nodes) 0) ≡ length nodes
      zeros = zeros_many (length nodes)

      one : (t : Bool) → ltb number (length nodes) ≡ t → size_at (put_sizes locks nodes order) number ≡ value number
      one true e = ap (λ (s : Option ℕ). unwrap_or s 0) (slice_get-filled value nodes (replicate (length nodes) 0) (put_size locks nodes) puts order is_order zeros number (grind (arith, nat_tests, e)))
      one false e =
          let past : length nodes ≤ number = grind (arith, nat_tests, e) in
          let table_size = length-filled value nodes (replicate (length nodes) 0) (put_size locks nodes) puts order is_order zeros in
          ap (λ (s : Option ℕ). unwrap_or s 0) (slice_get_past (fold (put_size locks nodes) (replicate (length nodes) 0) order) number (omega (arith, past, table_size)))
          ∙ ap capped (sym (past_nested locks nodes (length nodes) number (slice_get_past nodes number past)))
