-- How many events a flow has at most, without its waits: the expanded size of nodes and sources.
use Rattle.std.specs.Prelude.{ℕ, ◌+◌, ◌*◌, List, [], ◌∷◌, length}
use Rattle.flux_model.specs.declared.programs.NodeNo.{NodeNo}
use Rattle.flux_model.specs.declared.programs.Node.{Node}
use Rattle.flux_model.specs.declared.programs.Program.{Program}
use Rattle.flux_model.specs.declared.programs.SourceLine.{SourceLine}
use Rattle.flux_model.specs.Leading.{leads_to}
use Rattle.flux_model.specs.Locks.{Holds}
use Rattle.flux_model.specs.Nested.{Rule, through}

-- the sum of sizes of nodes
abbrev pub sizes_of : (ℕ → ℕ) → List NodeNo → ℕ
sizes_of size [] = 0
sizes_of size (node ∷ nodes) = size node.0 + sizes_of size nodes

-- a take and a drop for each class that the node holds; it is entered and left; its body is one call or one choice, and
-- then come the members of all its cases, and its handlers
abbrev pub size_by : Holds → Rule ℕ
size_by locks size number node = 2 * length (locks number) + 3 + sizes_of size (leads_to node)

abbrev pub size_of : Holds → List Node → ℕ → ℕ
size_of locks nodes number = through 0 (size_by locks) nodes number

-- a source's flow has its target's events and its end
abbrev pub source_size : Holds → Program → SourceLine → ℕ
source_size locks p line = size_of locks p.nodes line.target.0 + 1

-- the sum of the sizes of sources
abbrev pub total_size : Holds → Program → List SourceLine → ℕ
total_size locks p [] = 0
total_size locks p (line ∷ lines) = source_size locks p line + total_size locks p lines
