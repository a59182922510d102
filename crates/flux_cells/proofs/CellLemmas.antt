-- The empty cell is the one without names.
use Rattle.std.proofs.Common.{◌≡◌, ℕ, List, [], ◌∷◌, length, map, slice_get, Option, Some, None, refl, sym, ap, subst, ◌∙◌, arith, Bool, true, false, not, is_some, option_copied, unwrap_or, Bor, IsSome}
use Rattle.std.proofs.lemmas.Bool.{false≢true}
use Rattle.std.specs.Ordering.{nat_cmp}
use Rattle.std.specs.Cmp.Lexicographic.{slice_cmp}
use Rattle.std.specs.FinMap as fin
use Rattle.flux_values.specs.declared.values.Value.{Value}
use Rattle.flux_values.specs.Cells.{CellMap, no_cell}

abbrev Entries : Type 0
Entries = List (List ℕ × Value)

pub none_some : {X P : Type 0} (x : X) → None ≡ Some x → P
none_some {X} {P} x e = absurd (subst (λ (o : Option X). elim o as (λ _. Type 0) [ None ↦ Unit {0} | Some y ↦ ⊥ ]) e tt)

none_first : (entries : Entries) → None ≡ slice_get (map (λ e. e.0) entries) 0 → length entries ≡ 0
none_first [] e = refl
none_first (entry ∷ entries) e = none_some entry.0 e

-- a cell without a first name is empty
pub empty_from_names : (cell : CellMap) → None ≡ slice_get (fin.keys cell) 0 → cell ≡ no_cell
empty_from_names cell e = fin.empty_of_len cell (fin.len-entries cell ∙ none_first (fin.entries cell) e)

no_entries : (entries : Entries) → length entries ≡ 0 → slice_get (map (λ e. e.0) entries) 0 ≡ None
no_entries [] e = refl
no_entries (entry ∷ entries) e = absurd (omega (arith, e))

pub names_of_empty : (cell : CellMap) → cell ≡ no_cell → slice_get (fin.keys cell) 0 ≡ None
names_of_empty cell e = no_entries (fin.entries cell) (sym (fin.len-entries cell) ∙ ap (λ (c : CellMap). fin.len c) e ∙ fin.len-empty (slice_cmp nat_cmp) Value)

-- what `is_none` answers of a look-up
pub none_from_test : {X : Type 0} (answer : Option (Bor X)) (test : Bool) → is_some answer ≡ not test → test ≡ true → None ≡ option_copied answer
none_from_test None test says holds = refl
none_from_test (Some x) test says holds = absurd (false≢true (sym (says ∙ ap not holds)))

pub test_from_none : {X : Type 0} (answer : Option (Bor X)) (test : Bool) → is_some answer ≡ not test → option_copied answer ≡ None → test ≡ true
test_from_none None test says none = turned test says where
  turned : (b : Bool) → false ≡ not b → b ≡ true
  turned true e = refl
  turned false e = absurd (false≢true e)
test_from_none (Some x) test says none = none_some x.now (sym none)

pub some_is : {X : Type 0} (a b : X) → Some a ≡ Some b → a ≡ b
some_is a b e = ap (λ (o : Option _). unwrap_or o a) e

pub none_is_not : {X P : Type 0} (answer : Option X) → IsSome answer → answer ≡ None → P
none_is_not answer some none = absurd (false≢true (subst (λ o. IsSome o) none some))

pub none_from_is_some : {X : Type 0} (answer : Option X) → false ≡ is_some answer → answer ≡ None
none_from_is_some None gone = refl
none_from_is_some (Some x) gone = absurd (false≢true gone)
