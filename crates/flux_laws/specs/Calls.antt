-- What calls are given, and that it stays while other flows go on.
use Rattle.std.specs.Prelude.{◌≡◌, ℕ, List, [], ◌++◌, Option, Some, None}
use Rattle.std.specs.List.{slice_get, AllByRecursion}
use Rattle.flux_values.specs.declared.values.Value.{Value}
use Rattle.flux_values.specs.declared.meanings.Sig.{Sig}
use Rattle.flux_values.specs.declared.meanings.Role.TheVariants.{Plain}
use Rattle.flux_values.specs.Cells.{CellMap}
use Rattle.flux_values.specs.Meanings.{LibraryMeaning}
use Rattle.flux_library.specs.Libraries.{IsLawful}
use Rattle.flux_model.specs.declared.programs.Node.{Node}
use Rattle.flux_model.specs.declared.programs.NodeNo.{NodeNo}
use Rattle.flux_model.specs.declared.programs.Body.{Body}
use Rattle.flux_model.specs.declared.programs.Body.TheVariants.{Concrete, Abstract}
use Rattle.flow_model.specs.declared.journals.Entry.{Entry}
use Rattle.flow_model.specs.Setup.{Setup}
use Rattle.flux_model.specs.Kinds.{NodeKinds}
use Rattle.flux_model.specs.Items.{AreValues, IsItemFor}
use Rattle.flux_model.specs.Soundness.{IsSound}
use Rattle.flow_model.specs.CellsAfter.{cells_after}
use Rattle.flow_model.specs.Answers.{cells_for}
use Rattle.flow_model.specs.Events.{events_by, CallIsNext}
use Rattle.flow_model.specs.Legal.{IsLegal}

-- values of the kinds that a plain library node takes
pub record FitsSig (sig : Sig) (args : List Value) : Type 0 where
  pub role : sig.role ≡ Plain
  pub kinds : AreValues sig.ins args

abbrev pub FitsFound : Option Sig → List Value → Type 0
FitsFound None args = ⊥
FitsFound (Some sig) args = FitsSig sig args

abbrev pub FitsBody : LibraryMeaning → Body → List Value → Type 0
FitsBody meaning (Concrete name) args = FitsFound (meaning.node name) args
FitsBody meaning (Abstract cases) args = ⊥

-- a concrete node whose library node is there, is a plain one, and takes these
abbrev pub FitsNode : LibraryMeaning → Option Node → List Value → Type 0
FitsNode meaning None args = ⊥
FitsNode meaning (Some node) args = FitsBody meaning node.body args

-- the cells that a call of a node reads for a flow after these entries
abbrev pub cells_of_body : Setup → ℕ → ℕ → List Entry → Body → List CellMap
cells_of_body setup flow node entries (Concrete name) =
    cells_for setup flow node (cells_after setup entries) (setup.meaning.node name)
cells_of_body setup flow node entries (Abstract cases) = []

abbrev pub cells_of_node : Setup → ℕ → ℕ → List Entry → Option Node → List CellMap
cells_of_node setup flow number entries None = []
cells_of_node setup flow number entries (Some node) = cells_of_body setup flow number entries node.body

abbrev pub cells_read : Setup → ℕ → ℕ → List Entry → List CellMap
cells_read setup flow number entries =
    cells_of_node setup flow number entries (slice_get setup.program.nodes number)

-- ---- laws

-- in a program that is sound for a lawful library, with items of their sources' kinds, a call that is next in a legal
-- journal is of a concrete node on values that its library node takes
abbrev pub NextCallsFit : Type 0
NextCallsFit = (setup : Setup) (kinds : ℕ → NodeKinds) (entries : List Entry)
    → IsSound setup.meaning setup.program kinds → IsLawful setup.meaning
    → AllByRecursion (IsItemFor setup.program kinds) setup.items → IsLegal setup entries
    → (flow : ℕ) (node : NodeNo) (args : List Value) → CallIsNext setup entries flow node args
    → FitsNode setup.meaning (slice_get setup.program.nodes node.0) args

-- a flow that is at a call stays there while other flows go on, and the cells that the call reads stay as they are
pub record CallStays (setup : Setup) (entries more : List Entry) (flow : ℕ) (node : NodeNo) (args : List Value)
    : Type 0 where
  pub next : CallIsNext setup (entries ++ more) flow node args
  pub cells_ : cells_read setup flow node.0 (entries ++ more) ≡ cells_read setup flow node.0 entries

abbrev pub CallsStay : Type 0
CallsStay = (setup : Setup) (kinds : ℕ → NodeKinds) (entries more : List Entry)
    → IsSound setup.meaning setup.program kinds → IsLawful setup.meaning
    → AllByRecursion (IsItemFor setup.program kinds) setup.items → IsLegal setup (entries ++ more)
    → (flow : ℕ) (node : NodeNo) (args : List Value) → CallIsNext setup entries flow node args
    → events_by flow more ≡ [] → CallStays setup entries more flow node args
