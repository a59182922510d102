-- Numbers that have been visited, each once, in the order in which they came.
use Rattle.std.specs.Prelude.{◌≡◌, ℕ, nat_eq, true, List, [], ◌∷◌, ◌++◌, if◌then◌else◌}
use Rattle.std.specs.List.{fold, list_any}
use Rattle.flux_model.specs.declared.programs.NodeNo.{NodeNo}

-- whether a number is among numbers
abbrev pub IsKnown : ℕ → List ℕ → Type 0
IsKnown number numbers = list_any (nat_eq number) numbers ≡ true

-- a number more, where it isn't there yet
abbrev pub with_number : List ℕ → ℕ → List ℕ
with_number numbers number =
    if list_any (nat_eq number) numbers then numbers else numbers ++ number ∷ []

-- numbers of nodes more
abbrev pub with_all : List ℕ → List NodeNo → List ℕ
with_all numbers nodes = fold (λ known node. with_number known node.0) numbers nodes
