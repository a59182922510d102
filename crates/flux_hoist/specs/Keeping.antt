-- What a checked program keeps.
use Rattle.std.specs.Prelude.{◌≡◌, ℕ, ◌≤◌, List, length, map}
use Rattle.flux_model.specs.declared.programs.Program.{Program}
use Rattle.flux_model.specs.declared.programs.NodeNo.{NodeNo}
use Rattle.flux_model.specs.declared.programs.Hold.{Hold}
use Rattle.flux_model.specs.declared.signatures.NodeSig.{NodeSig}
use Rattle.flux_model.specs.Numbered.{IsNumbered}
use Rattle.flux_model.specs.Names.{IsNamed}
use Rattle.flux_model.specs.Ordering.{IsOrder, HasCycle}
use Rattle.flux_model.specs.Kinds.{Agree, kinds_at, sig_at}
use Rattle.flux_model.specs.Locks.{AreLocks}
use Rattle.flux_model.specs.Sizes.{source_size, total_size}
use Rattle.flux_hoist.specs.Counted.{size_limit}
use Rattle.flux_hoist.specs.Sets.{held_by}
use Rattle.flux_hoist.specs.Types.{TypesAgree}

-- the program is numbered, its names are distinct identifiers, and leading has no cycle; there is a
-- signature for each node, and these agree, in types and so in kinds, at each join, case, handler and
-- source; the order, the sets and the sizes are those of the program, whose nodes hold their locks; and
-- the sizes sum to at most 65,536
pub record Keeps (program : Program) (sigs : List NodeSig) (order : List NodeNo) (sets : List (List Hold))
    (sizes : List ℕ) : Type 0 where
  pub numbered : IsNumbered program
  pub named : IsNamed program
  pub acyclic : HasCycle program.nodes → ⊥
  pub many : length sigs ≡ length program.nodes
  pub types : TypesAgree program (sig_at sigs)
  pub agree : Agree program (kinds_at sigs)
  pub ordered : IsOrder program.nodes order
  pub locks : AreLocks program (held_by sets)
  pub sizes_ : sizes ≡ map (source_size (held_by sets) program) program.sources
  pub small : total_size (held_by sets) program program.sources ≤ size_limit
