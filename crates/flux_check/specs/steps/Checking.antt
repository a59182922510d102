-- Steps of checking: what each gives.
use Rattle.std.specs.Prelude.{◌≡◌, ℕ, ◌≤◌, List, [], ◌∷◌, map, Option, Some, None, ⊤}
use Rattle.std.specs.List.{slice_get}
use Rattle.flux_values.specs.Meanings.{LibraryMeaning}
use Rattle.flux_faults.specs.declared.faults.CheckFault.{CheckFault}
use Rattle.flux_faults.specs.declared.faults.CheckFault.TheVariants.{Static, Memory}
use Rattle.flux_model.specs.declared.programs.Program.{Program}
use Rattle.flux_model.specs.declared.programs.NodeNo.{NodeNo}
use Rattle.flux_model.specs.declared.named.Named.{Named}
use Rattle.flux_model.specs.Locks.{Holds}
use Rattle.flux_model.specs.Sizes.{source_size, total_size}
use Rattle.flux_syntax.specs.declared.declarations.Decl.{Decl}
use Rattle.flux_syntax.specs.Declares.{Declares}
use Rattle.flux_syntax.specs.Least.{first_fault}
use Rattle.flux_hoist.specs.Counted.{size_limit}
use Rattle.flux_check.specs.Rows.{size_rows}
use Rattle.flux_check.specs.Judgement.{IsCycleOf, IsDeclsFault}

-- the declarations are those of some text
abbrev pub IsDeclared : List Decl → Type 0
IsDeclared decls = (text : List ℕ) × Declares decls text

-- the sizes of the sources, by what nodes hold, which are within the limit
pub record AreSizes (locks : Holds) (decls : List Decl) (program : Program) (sizes : List ℕ) : Type 0 where
  pub sound : first_fault (size_rows locks decls) ≡ None
  pub are : sizes ≡ map (source_size locks program) program.sources
  pub small : total_size locks program program.sources ≤ size_limit

-- a cycle, or no memory
abbrev pub IsCycleRefusal : Named → CheckFault → Type 0
IsCycleRefusal named (Static fault) = IsCycleOf named fault
IsCycleRefusal named Memory = ⊤

-- where the first node of a path has its name
abbrev pub site_of : List ℕ → List NodeNo → Option ℕ
site_of sites [] = None
site_of sites (node ∷ path) = slice_get sites node.0

-- the fault of the declarations, or no memory
abbrev pub IsDeclsRefusal : LibraryMeaning → List Decl → CheckFault → Type 0
IsDeclsRefusal meaning decls (Static fault) = IsDeclsFault meaning decls fault
IsDeclsRefusal meaning decls Memory = ⊤
