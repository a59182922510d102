-- Which answers of `order` tell of a cycle.
use Rattle.std.specs.Prelude.{List, ⊤}
use Rattle.flux_model.specs.declared.programs.Node.{Node}
use Rattle.flux_model.specs.Ordering.{IsLowestCycle}
use Rattle.flux_graph.specs.declared.orders.GraphFault.{GraphFault}
use Rattle.flux_graph.specs.declared.orders.GraphFault.TheVariants.{Cycle, Memory}

-- a cycle has such a path, and nothing else is a fault of the program
abbrev pub IsFault : List Node → GraphFault → Type 0
IsFault nodes (Cycle path) = IsLowestCycle nodes path
IsFault nodes Memory = ⊤
