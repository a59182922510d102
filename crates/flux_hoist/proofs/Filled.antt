-- A table that is filled along an order, each node's place after those of the nodes that it leads to.
use Rattle.std.proofs.Common.{◌≡◌, ◌<◌, ◌≤◌, ◌+◌, ℕ, zero, suc, Bool, true, false, eqb, ltb, ◌⊎◌, inl, inr, List, [], ◌∷◌, length, get_or, drop, slice_set, Option, refl, sym, ap, subst, ◌∙◌, arith}
use Rattle.std.specs.Option.{unwrap_or}
use Rattle.std.proofs.lemmas.Bool.Decides.{nat_tests}
use Rattle.std.proofs.lemmas.List.{length-set}
use Rattle.std.proofs.Math.Seq.{drop-cons}
use Rattle.std.proofs.lemmas.Option.{slice_get_past}
use Rattle.flux_values.proofs.Sets.{get_put, get_beside}
use Rattle.flux_model.specs.declared.programs.Node.{Node}
use Rattle.flux_model.specs.declared.programs.NodeNo.{NodeNo}
use Rattle.flux_model.specs.Leading.{leads_in}
use Rattle.flux_model.specs.Children.{IsIn}
use Rattle.flux_model.specs.Ordering.{ComeAfter, IsOrder}
use Rattle.flux_hoist.proofs.Grown.{at_or}

module _ {X : Type 0} (nodes : List Node) (none : X) (Has : ℕ → X → Type 0) where
  -- the nodes that are no more to come have what they should
  pub record IsFilled (order rest : List NodeNo) (table : List X) : Type 0 where
    pub before : List NodeNo
    pub come : ComeAfter nodes before rest
    pub each : (number : ℕ) → IsIn number order → IsIn number rest ⊎ IsIn number before
    pub many : length table ≡ length nodes
    pub known : (number : ℕ) → IsIn number before → Has number (at_or none table number)

  pub filled_first : (order : List NodeNo) (table : List X) → IsOrder nodes order → length table ≡ length nodes → IsFilled order order table
  filled_first order table is many = record { before = []; come = is.after; each = λ number i. inl i; many = many; known = λ number i. absurd i }

  filled_next : (order rest : List NodeNo) (node : NodeNo) (table : List X) (x : X) → IsFilled order (node ∷ rest) table
      → (((led : ℕ) → IsIn led (leads_in nodes node.0) → Has led (at_or none table led)) → Has node.0 x) → IsFilled order rest (slice_set table node.0 x)
  filled_next order rest node table x f from = record {
    before = node ∷ f.before;
    come = f.come.3;
    each = λ number is. elim (f.each number is) [
      | inl (inl same) ↦ inr (inl same)
      | inl (inr later) ↦ inl later
      | inr earlier ↦ inr (inr earlier)
    ];
    many = length-set table node.0 x ∙ f.many;
    known = λ number is. one number (eqb number node.0) refl is;
  }
    where
      put : at_or none (slice_set table node.0 x) node.0 ≡ x
      put = ap (λ (found : Option X). unwrap_or found none) (get_put table node.0 x (let many = f.many in let below = f.come.0 in omega (arith, many, below)))

      beside : (number : ℕ) → (number ≡ node.0 → ⊥) → at_or none (slice_set table node.0 x) number ≡ at_or none table number
      beside number apart = ap (λ (found : Option X). unwrap_or found none) (get_beside table node.0 number x apart)

      one : (number : ℕ) (t : Bool) → eqb number node.0 ≡ t → IsIn number (node ∷ f.before) → Has number (at_or none (slice_set table node.0 x) number)
      one number true e is =
          let same : number ≡ node.0 = grind (arith, nat_tests, e) in
          subst (λ (n : ℕ). Has n (at_or none (slice_set table node.0 x) n)) (sym same) (subst (Has node.0) (sym put) (from (λ led i. f.known led (f.come.2 led i))))
      one number false e (inl same) = absurd (grind (arith, nat_tests, e, same))
      one number false e (inr is) =
          subst (Has number) (sym (beside number (λ (same : number ≡ node.0). grind (arith, nat_tests, e, same)))) (f.known number is)

  filled_here : (order : List NodeNo) (i : ℕ) (d : NodeNo) (table : List X) → i < length order → IsFilled order (drop i order) table → IsFilled order (get_or order i d ∷ drop (i + 1) order) table
  filled_here order i d table lt f =
      subst (λ (rest : List NodeNo). IsFilled order rest table) (drop-cons order i d lt ∙ ap (λ (k : ℕ). get_or order i d ∷ drop k order) (let next : suc i ≡ i + 1 = omega arith in next)) f

  -- the next node is one of the nodes
  pub filled_within : (order : List NodeNo) (i : ℕ) (d : NodeNo) (table : List X) → i < length order → IsFilled order (drop i order) table → (get_or order i d).0 < length nodes
  filled_within order i d table lt f = (filled_here order i d table lt f).come.0

  -- it gets what it should have by what the nodes that it leads to have
  pub filled_step : (order : List NodeNo) (i : ℕ) (d : NodeNo) (table : List X) (x : X) → i < length order → IsFilled order (drop i order) table
      → (((led : ℕ) → IsIn led (leads_in nodes (get_or order i d).0) → Has led (at_or none table led)) → Has (get_or order i d).0 x)
      → IsFilled order (drop (i + 1) order) (slice_set table (get_or order i d).0 x)
  filled_step order i d table x lt f from = filled_next order (drop (i + 1) order) (get_or order i d) table x (filled_here order i d table lt f) from

  -- at the end all nodes have what they should; what is no node should have nothing
  filled_last : (order : List NodeNo) (table : List X) → IsOrder nodes order → IsFilled order [] table → ((number : ℕ) → length nodes ≤ number → Has number none) → (number : ℕ) → Has number (at_or none table number)
  filled_last order table is f past number = one (ltb number (length nodes)) refl
    where
      inside : IsIn number [] ⊎ IsIn number f.before → Has number (at_or none table number)
      inside (inl never) = absurd never
      inside (inr before) = f.known number before

      nothing : length nodes ≤ number → at_or none table number ≡ none
      nothing le = ap (λ (found : Option X). unwrap_or found none) (slice_get_past table number (let many = f.many in omega (arith, many, le)))

      one : (t : Bool) → ltb number (length nodes) ≡ t → Has number (at_or none table number)
      one true e = inside (f.each number (is.each number (grind (arith, nat_tests, e))))
      one false e = let le : length nodes ≤ number = grind (arith, nat_tests, e) in subst (Has number) (sym (nothing le)) (past number le)

  drop_all : (xs : List NodeNo) (k : ℕ) → length xs ≤ k → drop k xs ≡ []
  drop_all [] zero le = refl
  drop_all [] (suc k) le = refl
  drop_all (x ∷ xs) zero le = absurd (omega arith)
  drop_all (x ∷ xs) (suc k) le = drop_all xs k (omega arith)

  pub filled_end : (order : List NodeNo) (i : ℕ) (table : List X) → IsOrder nodes order → length order ≤ i → IsFilled order (drop i order) table → ((number : ℕ) → length nodes ≤ number → Has number none)
      → (number : ℕ) → Has number (at_or none table number)
  filled_end order i table is le f past = filled_last order table is (subst (λ (rest : List NodeNo). IsFilled order rest table) (drop_all order i le) f) past
