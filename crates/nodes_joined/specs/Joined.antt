-- Two libraries as one, and what one library has of another.
use Rattle.std.specs.Prelude.{◌≡◌, ℕ, if◌then◌else◌, List, Option, Some, None, is_some, IfSome}
use Rattle.std.specs.Option.{option_or}
use Rattle.flux_values.specs.declared.values.Value.{Value}
use Rattle.flux_values.specs.declared.answers.Answer.{Answer}
use Rattle.flux_values.specs.Cells.{CellMap}
use Rattle.flux_values.specs.Meanings.{LibraryMeaning}

-- two libraries as one: what a name means in the first, where that has it, and else in the second
unfoldable pub joined : LibraryMeaning → LibraryMeaning → LibraryMeaning
joined first second = record {
  kind = λ ty. option_or (first.kind ty) (second.kind ty);
  node = λ name. option_or (first.node name) (second.node name);
  predicate = λ name. option_or (first.predicate name) (second.predicate name);
  session = λ name. option_or (first.session name) (second.session name);
  call = λ name. if is_some (first.node name) then first.call name else second.call name;
  test = λ name. if is_some (first.predicate name) then first.test name else second.test name;
  id = λ name. if is_some (first.session name) then first.id name else second.id name;
}

-- what a node answers, where a library has it
abbrev pub answer_if_had : LibraryMeaning → List ℕ → List Value → List CellMap → Option Answer
answer_if_had meaning name args cells =
    if is_some (meaning.node name) then Some (meaning.call name args cells) else None

-- a library has all that another has, and means the same by it: types, nodes with their answers,
-- predicates with their tests, session functions with their numbers
pub record Has (whole : LibraryMeaning) (part : LibraryMeaning) : Type 0 where
  pub kinds : (ty : List ℕ) → IfSome (part.kind ty) (λ kind. whole.kind ty ≡ Some kind)
  pub nodes : (name : List ℕ) → IfSome (part.node name) (λ sig.
      (whole.node name ≡ Some sig) × (whole.call name ≡ part.call name))
  pub predicates : (name : List ℕ) → IfSome (part.predicate name) (λ kind.
      (whole.predicate name ≡ Some kind) × (whole.test name ≡ part.test name))
  pub sessions : (name : List ℕ) → IfSome (part.session name) (λ kinds.
      (whole.session name ≡ Some kinds) × (whole.id name ≡ part.id name))
