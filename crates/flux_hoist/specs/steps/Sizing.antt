-- Steps of sizing: the sizes of nodes, put into a list node after node.
use Rattle.std.specs.Prelude.{ℕ, ◌+◌, ◌*◌, fold, length, replicate, List, Option, Some, None, slice_set}
use Rattle.std.specs.List.{slice_get}
use Rattle.flux_model.specs.declared.programs.NodeNo.{NodeNo}
use Rattle.flux_model.specs.declared.programs.Node.{Node}
use Rattle.flux_model.specs.Leading.{leads_to}
use Rattle.flux_model.specs.Locks.{Holds}
use Rattle.flux_hoist.specs.Counted.{capped, size_at}

-- what a node counts without the nodes that it leads to
abbrev pub own_size : Holds → ℕ → ℕ
own_size locks number = capped (2 * length (locks number) + 3)

abbrev pub capped_sum : List ℕ → ℕ → List NodeNo → ℕ
capped_sum sizes total nodes = fold (λ sum node. capped (sum + size_at sizes node.0)) total nodes

abbrev pub put_found : Holds → List ℕ → ℕ → Option Node → List ℕ
put_found locks sizes number None = sizes
put_found locks sizes number (Some node) =
    slice_set sizes number (capped_sum sizes (own_size locks number) (leads_to node))

abbrev pub put_size : Holds → List Node → List ℕ → NodeNo → List ℕ
put_size locks nodes sizes number = put_found locks sizes number.0 (slice_get nodes number.0)

-- the sizes of all nodes, along an order
abbrev pub put_sizes : Holds → List Node → List NodeNo → List ℕ
put_sizes locks nodes order = fold (put_size locks nodes) (replicate (length nodes) 0) order
