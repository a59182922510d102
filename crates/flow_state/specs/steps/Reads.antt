-- What a call reads. No promise cites it.
use Rattle.std.specs.Prelude.{◌≡◌, ℕ, List, Option, Some}
use Rattle.std.specs.List.{slice_get}
use Rattle.flux_values.specs.declared.meanings.Sig.{Sig}
use Rattle.flux_values.specs.Cells.{CellMap}
use Rattle.flux_values.specs.Meanings.{LibraryMeaning}
use Rattle.flux_model.specs.declared.programs.ClassNo.{ClassNo}
use Rattle.flux_model.specs.declared.programs.Node.{Node}
use Rattle.flux_model.specs.declared.programs.Program.{Program}
use Rattle.flux_model.specs.declared.programs.Body.TheVariants.{Concrete}
use Rattle.flow_model.specs.Keys.{Cells}
use Rattle.flow_state.specs.steps.Cells.{classes_read, cells_under}

-- a concrete node, whose library node is there
pub record IsKnown (meaning : LibraryMeaning) (p : Program) (node : ℕ) : Type 0 where
  pub found : Node
  pub is_found : slice_get p.nodes node ≡ Some found
  pub name : List ℕ
  pub is_name : found.body ≡ Concrete name
  pub sig : Sig
  pub is_sig : meaning.node name ≡ Some sig

-- the cells that it uses in a session
pub record AreRead (meaning : LibraryMeaning) (p : Program) (cells : Cells) (session node : ℕ) (read : List CellMap)
    : Type 0 where
  pub classes : List (Option ClassNo)
  pub are_classes : slice_get (classes_read meaning p) node ≡ Some classes
  pub read_ : read ≡ cells_under p cells session classes
