-- Which texts are sound, and which fault a text has.
use Rattle.std.specs.Prelude.{◌≡◌, ◌⊎◌, ℕ, List, [], map, Some, None}
use Rattle.std.specs.List.{slice_get}
use Rattle.flux_values.specs.Meanings.{LibraryMeaning}
use Rattle.flux_faults.specs.declared.faults.FaultKind.TheVariants.{Cycle}
use Rattle.flux_faults.specs.declared.faults.StaticFault.{StaticFault}
use Rattle.flux_model.specs.declared.programs.NodeNo.{NodeNo}
use Rattle.flux_model.specs.declared.named.Named.{Named}
use Rattle.flux_model.specs.Ordering.{HasCycle, IsLowestCycle}
use Rattle.flux_model.specs.Locks.{Holds, AreLocks}
use Rattle.flux_model.specs.Texts.{node_name}
use Rattle.flux_syntax.specs.declared.declarations.Decl.{Decl}
use Rattle.flux_syntax.specs.Declares.{Declares}
use Rattle.flux_syntax.specs.Unexpected.{IsFaulty}
use Rattle.flux_syntax.specs.ProgramOfText.{program_of, named_of}
use Rattle.flux_syntax.specs.Least.{Row, first_fault}
use Rattle.flux_names.specs.Rows.{rows}
use Rattle.flux_types.specs.Signatures.{nodes_of}
use Rattle.flux_check.specs.Rows.{later_rows, size_rows}

-- ---- sound declarations

-- no row on names applies, and there is no cycle
pub record AreOrdered (meaning : LibraryMeaning) (decls : List Decl) : Type 0 where
  pub named : first_fault (rows meaning decls) ≡ None
  pub acyclic : HasCycle (nodes_of decls) → ⊥

-- and none of the rows 16 to 26
pub record AreJoined (meaning : LibraryMeaning) (decls : List Decl) : Type 0 where
  pub ordered : AreOrdered meaning decls
  pub later : first_fault (later_rows meaning decls) ≡ None

-- and the sizes, with the program's locks, are within the limit: the declarations are sound
pub record AreSound (meaning : LibraryMeaning) (decls : List Decl) : Type 0 where
  pub joined : AreJoined meaning decls
  pub locks : Holds
  pub are_locks : AreLocks (program_of decls) locks
  pub sized : first_fault (size_rows locks decls) ≡ None

-- ---- the fault of declarations: of the first group that has one

-- the row that applies with the least number, at its least place
pub record IsFirst (rows : List Row) (fault : StaticFault) : Type 0 where
  pub is : first_fault rows ≡ Some (fault.kind, fault.at)
  pub path : fault.path ≡ []

-- 15: a cycle through the lowest-numbered node on any, at that node's first naming line; the path has the nodes' names
pub record IsCycleOf (named : Named) (fault : StaticFault) : Type 0 where
  pub is : fault.kind ≡ Cycle
  pub path : List NodeNo
  pub cycle : IsLowestCycle named.program.nodes path
  pub names : fault.path ≡ map (node_name named.program) path
  pub site : let first = cycle.cycle.first in slice_get named.sites.nodes first.0 ≡ Some fault.at

pub record IsCycleFault (meaning : LibraryMeaning) (decls : List Decl) (fault : StaticFault) : Type 0 where
  pub named : first_fault (rows meaning decls) ≡ None
  pub cycle : IsCycleOf (named_of decls) fault

-- 16 to 26
pub record IsLaterFault (meaning : LibraryMeaning) (decls : List Decl) (fault : StaticFault) : Type 0 where
  pub ordered : AreOrdered meaning decls
  pub first : IsFirst (later_rows meaning decls) fault

-- 27
pub record IsSizeFault (meaning : LibraryMeaning) (decls : List Decl) (fault : StaticFault) : Type 0 where
  pub joined : AreJoined meaning decls
  pub locks : Holds
  pub are_locks : AreLocks (program_of decls) locks
  pub first : IsFirst (size_rows locks decls) fault

-- 5 to 14, and 28 where none of these applies; and those
abbrev pub IsDeclsFault : LibraryMeaning → List Decl → StaticFault → Type 0
IsDeclsFault meaning decls fault =
    IsFirst (rows meaning decls) fault
    ⊎ (IsCycleFault meaning decls fault
    ⊎ (IsLaterFault meaning decls fault
    ⊎ IsSizeFault meaning decls fault))

-- ---- texts

-- the text has one of the faults 1 to 4, or it has declarations with a fault
abbrev pub IsTextFault : LibraryMeaning → List ℕ → StaticFault → Type 0
IsTextFault meaning text fault =
    (IsFaulty fault.kind fault.at text × (fault.path ≡ []))
    ⊎ ((decls : List Decl) × Declares decls text × IsDeclsFault meaning decls fault)
