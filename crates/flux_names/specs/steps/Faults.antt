-- Steps of the code: rows by their least places. No public clause cites it.
use Rattle.std.specs.Prelude.{ℕ, List, [], ◌∷◌, ◌++◌, drop, Option, None}
use Rattle.flux_faults.specs.declared.faults.FaultKind.{FaultKind}
use Rattle.flux_syntax.specs.declared.declarations.Word.{Word}
use Rattle.flux_syntax.specs.Least.{fault_or}
use Rattle.flux_names.specs.Rows.{node_limit, class_limit}

abbrev pub first_standing : List (FaultKind × Option ℕ) → Option (FaultKind × ℕ)
first_standing [] = None
first_standing (row ∷ rows) = fault_or row.0 row.1 (first_standing rows)

abbrev pub too_many_of : List Word → List Word → List Word
too_many_of nodes classes = drop node_limit nodes ++ drop class_limit classes
