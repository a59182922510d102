-- Calls: the library nodes that they call, what these are given, and which answers are right.
use Rattle.std.specs.Prelude.{◌≡◌, ℕ, List, Option, Some, None}
use Rattle.std.specs.List.{slice_get}
use Rattle.flux_values.specs.declared.answers.Answer.{Answer}
use Rattle.flux_values.specs.Meanings.{LibraryMeaning}
use Rattle.flux_library.specs.Libraries.{IsCallable}
use Rattle.flux_model.specs.declared.programs.Program.{Program}
use Rattle.flux_model.specs.declared.programs.Node.{Node}
use Rattle.flux_model.specs.declared.programs.NodeNo.{NodeNo}
use Rattle.flux_model.specs.declared.programs.Body.{Body}
use Rattle.flux_model.specs.declared.programs.Body.TheVariants.{Concrete, Abstract}
use Rattle.flow_model.specs.declared.journals.CallMade.{CallMade}
use Rattle.flow_model.specs.declared.journals.Entry.{Entry}
use Rattle.flow_model.specs.Setup.{Setup}
use Rattle.flow_model.specs.Events.{CallIsNext}
use Rattle.flux_laws.specs.Calls.{cells_read}
use Rattle.flow_state.specs.declared.inputs.Inputs.{Inputs}

-- a node's library name, if it is concrete
abbrev pub body_name : Body → Option (List ℕ)
body_name (Concrete name) = Some name
body_name (Abstract cases) = None

abbrev pub node_name : Option Node → Option (List ℕ)
node_name None = None
node_name (Some node) = body_name node.body

abbrev pub library_name : Program → NodeNo → Option (List ℕ)
library_name p node = node_name (slice_get p.nodes node.0)

-- the library has the node, and it may be called on these inputs
abbrev pub IsReadyBy : LibraryMeaning → Option (List ℕ) → Inputs → Type 0
IsReadyBy meaning None inputs = ⊥
IsReadyBy meaning (Some name) inputs = IsCallable (meaning.node name) inputs.args inputs.cells

abbrev pub IsReady : LibraryMeaning → Program → Inputs → Type 0
IsReady meaning p inputs = IsReadyBy meaning (library_name p inputs.node) inputs

-- the answer is the library's, for the node's library name and its inputs
abbrev pub IsAnswerBy : LibraryMeaning → Option (List ℕ) → Inputs → Answer → Type 0
IsAnswerBy meaning None inputs answer = ⊥
IsAnswerBy meaning (Some name) inputs answer = answer ≡ meaning.call name inputs.args inputs.cells

abbrev pub IsAnswerOf : LibraryMeaning → Program → Inputs → Answer → Type 0
IsAnswerOf meaning p inputs answer = IsAnswerBy meaning (library_name p inputs.node) inputs answer

-- the flow's next event is a call with these inputs: of that node on those values, and on the cells that the entries
-- leave
pub record IsNextCall (setup : Setup) (entries : List Entry) (flow : ℕ) (inputs : Inputs) : Type 0 where
  pub next : CallIsNext setup entries flow inputs.node inputs.args
  pub cells_ : inputs.cells ≡ cells_read setup flow inputs.node.0 entries

-- a call with its answer, as an entry has it
abbrev pub made_of : Inputs → Answer → CallMade
made_of inputs answer = record { node = inputs.node; args = inputs.args; answer = answer }
