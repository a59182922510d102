-- Mirrors of the steps of a search in depth, and what is read from them.
use Rattle.std.specs.Prelude.{ℕ, zero, suc, List, [], ◌∷◌, ◌++◌, map}
use Rattle.std.specs.List.{flat_map}
use Rattle.flux_model.specs.declared.programs.NodeNo.{NodeNo}
use Rattle.flux_graph.specs.declared.steps.Step.{Step}
use Rattle.flux_graph.specs.declared.steps.Step.TheVariants.{Enter, Leave}

-- steps into nodes
abbrev pub enters : List NodeNo → List Step
enters nodes = map Enter nodes

abbrev pub leave_of : Step → List NodeNo
leave_of (Enter node) = []
leave_of (Leave node) = node ∷ []

-- the nodes that have been entered and not been left
abbrev pub leaves_of : List Step → List NodeNo
leaves_of steps = flat_map leave_of steps

-- the first numbers
abbrev pub numbered : ℕ → List NodeNo
numbered zero = []
numbered (suc count) = numbered count ++ record { 0 = count } ∷ []
