-- A batch: its links, its items, its run and its replies.
use Rattle.std.specs.Prelude.{ℕ, ◌+◌, List, [], length}
use Rattle.flux_values.specs.Meanings.{LibraryMeaning}
use Rattle.flux_values.specs.Cells.{no_cell}
use Rattle.flux_model.specs.declared.programs.Program.{Program}
use Rattle.flux_model.specs.declared.items.Item.{Item}
use Rattle.flow_model.specs.declared.journals.Journal.{Journal}
use Rattle.flow_model.specs.Keys.{Cells}
use Rattle.flow_model.specs.Setup.{Setup}
use Rattle.flow_model.specs.CellsAfter.{cells_after}
use Rattle.flow_model.specs.Legal.{IsLegal, IsWhole}
use Rattle.flux_laws.specs.Hoisted.{locks_of}
use Rattle.flux_journal.specs.Logs.{printed_batch}
use Rattle.flux_doors.specs.declared.framing.Framing.{Framing}
use Rattle.flux_doors.specs.Seen.{SeenLink}
use Rattle.flux_batches.specs.declared.reading.ReadLink.{ReadLink}
use Rattle.flux_batches.specs.Links.{WereRead, AreRead, items_from}
use Rattle.flux_batches.specs.Replies.{AreAnswered}
use Rattle.flux_serve.specs.declared.orders.BatchOrder.{BatchOrder}
use Rattle.flux_serve.specs.Orders.{IsInOrder}

-- what is served: a program, how its links are read, in which order the flows of a batch go on, and
-- what its library means
pub record Service : Type 0 where
  pub program : Program
  pub framing : Framing
  pub order : BatchOrder
  pub meaning : LibraryMeaning

-- what a batch's journal is judged by: the program with its locks, the batch's items, the cells at
-- its start and the library
abbrev pub batch_setup : Service → Cells → List Item → Setup
batch_setup service opening items = record {
  program = service.program;
  locks = locks_of service.program;
  items = items;
  opening = opening;
  meaning = service.meaning;
}

-- a batch: its links as they came, as they were read and as they went back, and its journal
pub record Batch (L : Type 0) : Type 0 where
  pub came : List L
  pub requests : List (ReadLink L)
  pub back : List L
  pub journal : Journal

-- its items: the numbers of its links, from one on, and their texts
abbrev pub batch_items : {L : Type 0} → ℕ → Batch L → List Item
batch_items number batch = items_from number batch.requests

-- its links were read, its journal is legal and whole for its items from these cells and in the
-- order that is served, and each link was written the reply of its flow
pub record IsDriven {L : Type 0} (see : L → SeenLink) (service : Service) (opening : Cells)
    (number : ℕ) (batch : Batch L) : Type 0 where
  pub read : WereRead see service.framing batch.came batch.requests []
  pub each : AreRead batch.requests
  pub legal : let journal = batch.journal in
      IsLegal (batch_setup service opening (batch_items number batch)) journal.entries
  pub whole : let journal = batch.journal in
      IsWhole (batch_setup service opening (batch_items number batch)) journal.entries
  pub order : let journal = batch.journal in
      IsInOrder service.order (batch_setup service opening (batch_items number batch)) journal.entries
  pub replies : let journal = batch.journal in
      AreAnswered see journal.entries 0 batch.requests batch.back []

-- ---- after a batch

-- the cells
abbrev pub cells_behind : {L : Type 0} → Service → Cells → ℕ → Batch L → Cells
cells_behind service opening number batch = let journal = batch.journal in
    cells_after (batch_setup service opening (batch_items number batch)) journal.entries

-- the number of the next link
abbrev pub number_behind : {L : Type 0} → ℕ → Batch L → ℕ
number_behind number batch = number + length batch.requests

-- its text in the log
abbrev pub batch_text : {L : Type 0} → Service → ℕ → ℕ → Batch L → List ℕ
batch_text service count number batch =
    printed_batch service.program count (batch_items number batch) batch.journal

-- the first batch opens with empty cells
abbrev pub empty_cells : Cells
empty_cells = λ key. no_cell
