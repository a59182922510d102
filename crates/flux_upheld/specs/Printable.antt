-- Libraries whose answers can be printed and read back, beside what the laws of libraries say.
use Rattle.std.specs.Prelude.{◌≡◌, ℕ, ◌<◌, ◌^◌, List, Some, All}
use Rattle.std.specs.List.{AllByRecursion}
use Rattle.std.specs.FinMap.{get}
use Rattle.std.specs.Prelude.{Option, IfSome}
use Rattle.flux_values.specs.declared.values.Value.{Value}
use Rattle.flux_values.specs.declared.texts.TheConstants.{TEXT_LIMIT}
use Rattle.flux_values.specs.declared.answers.Answer.{Answer}
use Rattle.flux_values.specs.declared.answers.Put.{Put}
use Rattle.flux_values.specs.declared.meanings.Sig.{Sig}
use Rattle.flux_values.specs.Cells.{CellMap}
use Rattle.flux_values.specs.Meanings.{LibraryMeaning}
use Rattle.flux_values.specs.Reading.{IsValue}
use Rattle.flux_library.specs.Libraries.{Fits}
use Rattle.flux_journal.specs.Entries.{IsTextOf, IsValueOrNone}

-- a cell has names and values that a program can hold
abbrev pub HoldsValues : CellMap → Type 0
HoldsValues cell = (name : List ℕ) (value : Value) → get cell name ≡ Some value
    → IsTextOf TEXT_LIMIT name × IsValue value

-- so has a put
pub record PutsValue (put : Put) : Type 0 where
  pub name : IsTextOf TEXT_LIMIT put.name
  pub value : IsValueOrNone put.value

-- an answer puts such, and emits bytes
pub record IsPrintable (answer : Answer) : Type 0 where
  pub puts : AllByRecursion PutsValue answer.puts
  pub emits : All (λ byte. byte < 256) answer.emits

-- a node's answers on values, and on cells that hold values, are printable
abbrev pub AnswersPrintably : Option Sig → (List Value → List CellMap → Answer) → Type 0
AnswersPrintably found call = IfSome found (λ sig. (args : List Value) (cells : List CellMap)
    → Fits sig args cells → AllByRecursion IsValue args → AllByRecursion HoldsValues cells
    → IsPrintable (call args cells))

-- so it is for each node of a library, and its numbers of sessions have 64 bits
pub record AnswersCanBePrinted (meaning : LibraryMeaning) : Type 0 where
  pub nodes : (name : List ℕ) → AnswersPrintably (meaning.node name) (meaning.call name)
  pub sessions : (name : List ℕ) (values : List Value) → AllByRecursion IsValue values
      → meaning.id name values < 2 ^ 64
