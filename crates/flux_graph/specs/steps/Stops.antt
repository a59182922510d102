-- A step of the proof of `order`: why its search stops early.
use Rattle.std.specs.Prelude.{List, ⊤}
use Rattle.flux_model.specs.declared.programs.Node.{Node}
use Rattle.flux_model.specs.Ordering.{HasCycle}
use Rattle.flux_graph.specs.declared.ordering.Stop.{Stop}
use Rattle.flux_graph.specs.declared.ordering.Stop.TheVariants.{Cycle, Memory}

-- there is a cycle, or memory was short
abbrev pub IsCyclic : List Node → Stop → Type 0
IsCyclic nodes Cycle = HasCycle nodes
IsCyclic nodes Memory = ⊤
