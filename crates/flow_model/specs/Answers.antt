-- Whether calls have the answers of their nodes, on the cells that earlier calls left.
use Rattle.std.specs.Prelude.{◌≡◌, ℕ, List, [], map, Option, Some, None}
use Rattle.std.specs.List.{slice_get}
use Rattle.flux_values.specs.declared.answers.Answer.{Answer}
use Rattle.flux_values.specs.declared.meanings.Sig.{Sig}
use Rattle.flux_values.specs.Cells.{CellMap, no_cell}
use Rattle.flux_model.specs.declared.programs.Node.{Node}
use Rattle.flux_model.specs.declared.programs.Body.{Body}
use Rattle.flux_model.specs.declared.programs.Body.TheVariants.{Concrete, Abstract}
use Rattle.flow_model.specs.declared.journals.CallMade.{CallMade}
use Rattle.flow_model.specs.declared.journals.Event.TheVariants.{Call}
use Rattle.flow_model.specs.declared.journals.Entry.{Entry}
use Rattle.flux_model.specs.declared.items.FlowNo.{FlowNo}
use Rattle.flow_model.specs.declared.journals.Key.{Key}
use Rattle.flow_model.specs.Setup.{Setup}
use Rattle.flow_model.specs.Keys.{Cells}
use Rattle.flow_model.specs.CellsAfter.{cell_key, cells_after}
use Rattle.flow_model.specs.Events.{Stands}

-- the cell under a key
abbrev pub cell_at : Cells → Option Key → CellMap
cell_at cells None = no_cell
cell_at cells (Some key) = cells key

-- one cell for each cell use of a library node, in order: that of the flow's key under the use's name
abbrev pub cells_for : Setup → ℕ → ℕ → Cells → Option Sig → List CellMap
cells_for setup flow node cells None = []
cells_for setup flow node cells (Some sig) =
    map (λ cell. cell_at cells (cell_key setup flow node cell.name)) sig.cells

-- the answer of a library node on a call's arguments and on cells
abbrev pub answer_of : Setup → ℕ → Cells → List ℕ → CallMade → Answer
answer_of setup flow cells name made = setup.meaning.call name made.args
    (cells_for setup flow made.node.0 cells (setup.meaning.node name))

-- a call's answer is that of its concrete node's library node
abbrev pub IsBodyAnswer : Setup → ℕ → Cells → Body → CallMade → Type 0
IsBodyAnswer setup flow cells (Concrete name) made = made.answer ≡ answer_of setup flow cells name made
IsBodyAnswer setup flow cells (Abstract cases) made = ⊥

abbrev pub IsNodeAnswer : Setup → ℕ → Cells → Option Node → CallMade → Type 0
IsNodeAnswer setup flow cells None made = ⊥
IsNodeAnswer setup flow cells (Some node) made = IsBodyAnswer setup flow cells node.body made

-- each call has its node's answer on the cells after the entries before it
abbrev pub AreAnswersRight : Setup → List Entry → Type 0
AreAnswersRight setup entries = (before after : List Entry) (flow : FlowNo) (made : CallMade)
    → Stands entries before flow (Call made) after
    → IsNodeAnswer setup flow.0 (cells_after setup before)
    (slice_get setup.program.nodes made.node.0) made
