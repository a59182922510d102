-- Each node keeps the laws of nodes.
use Rattle.std.specs.Prelude.{ℕ, List}
use Rattle.flux_library.specs.Libraries.{IsLawfulNode}
use Rattle.nodes_own.specs.Nodes.{sig_named, answer_named}

-- Write here the law of each node, and put it below: see NODES, "The laws".

pub nodes_lawful : (name : List ℕ) → IsLawfulNode (sig_named name) (answer_named name)
nodes_lawful name = tt
