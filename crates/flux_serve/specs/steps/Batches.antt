-- Steps of serving a batch. No promise cites it.
use Rattle.std.specs.Prelude.{◌≡◌, ℕ, ◌<◌, ◌≤◌, ◌⊎◌, List, [], length, Option, None, IfSome}
use Rattle.std.specs.Arc.{arc_value}
use Rattle.flux_values.specs.Meanings.{LibraryMeaning}
use Rattle.flux_cells.specs.Kept.{cells_of}
use Rattle.flux_outside.specs.Streams.{Stream, Wrote, Broke}
use Rattle.flux_doors.specs.declared.framing.Framing.{Framing}
use Rattle.flux_batches.specs.declared.reading.ReadLink.{ReadLink}
use Rattle.flux_batches.specs.Links.{WereRead}
use Rattle.flux_batches.specs.Gathered.{AreGathered}
use Rattle.flux_outside.specs.Causes.{Rose}
use Rattle.flux_doors.specs.Doors.{waiting, first_link}
use Rattle.flux_doors.specs.Seen.{SeenLink}
use Rattle.flow_model.specs.Keys.{Cells}
use Rattle.flux_serve.specs.declared.runs.Served.{Served}
use Rattle.flux_serve.specs.declared.batches.Run.{Run}
use Rattle.flux_serve.specs.Served.{CanServe}
use Rattle.flux_serve.specs.Batches.{Service, Batch, batch_items, cells_behind, number_behind}
use Rattle.flux_serve.specs.Ends.{Sight, IsUndriven, HasDriven, HasStopped, Stands}
use Rattle.flux_serve.specs.AtOnce.{IsBegun}
use Rattle.flux_serve.specs.declared.batches.ServeEnd.{ServeEnd}
use Rattle.flux_serve.specs.declared.batches.ServeEnd.TheVariants.{Closed, Counted, Door}
use Rattle.flux_serve.specs.declared.batches.ServeEnd.TheVariants.{Log, Memory}

-- ---- what contracts speak of

-- a sight beside another log
abbrev pub with_log : {L : Type 0} → Sight L → Stream → Sight L
with_log sight log = record {
  to_come = sight.to_come;
  taken_back = sight.taken_back;
  faults = sight.faults;
  late = sight.late;
  log = log;
}

-- what is served
abbrev pub service_in : {L : Type 0} → (L → LibraryMeaning) → Served L → Service
service_in meaning served = record {
  program = arc_value served.program;
  framing = served.framing;
  order = served.order;
  meaning = meaning (arc_value served.library);
}

-- and that it can be
abbrev pub MayServe : {L : Type 0} → (L → LibraryMeaning) → Served L → Type 0
MayServe meaning served =
    CanServe (meaning (arc_value served.library)) (arc_value served.program) (arc_value served.plans) served.framing

-- ---- batches

-- links came and were read
pub record IsTaken {L : Type 0} (see : L → SeenLink) (framing : Framing)
    (before after : Option (List (List L))) (late late' : ℕ) (requests : List (ReadLink L)) : Type 0 where
  pub came : List L
  pub formed : AreGathered before after late late' came
  pub size : (0 < length came) × (length came ≤ 64)
  pub read : WereRead see framing came requests []

-- no batch was driven
abbrev pub IsNone : {L : Type 0} → (L → SeenLink) → Framing → Sight L → Sight L → ServeEnd → Type 0
IsNone see framing before after Closed =
    IfSome before.to_come (λ batches. first_link (waiting batches) ≡ None)
    × (after.taken_back ≡ before.taken_back) × (after.log ≡ before.log)
    × (after.faults ≡ before.faults) × (after.late ≡ before.late)
IsNone see framing before after Counted = ⊥
IsNone see framing before after Door =
    Rose before.faults after.faults × (after.taken_back ≡ before.taken_back)
    × (after.log ≡ before.log) × (after.to_come ≡ before.to_come) × (after.late ≡ before.late)
IsNone see framing before after Log = ⊥
IsNone see framing before after Memory = IsUndriven see framing before after

-- a batch that was answered, and whose text wasn't written
abbrev pub HasFinished : ServeEnd → Stream → Stream → List ℕ → Type 0
HasFinished Closed before after text = ⊥
HasFinished Counted before after text = ⊥
HasFinished Door before after text = ⊥
HasFinished Log before after text = Broke before after text
HasFinished Memory before after text = after ≡ before

-- a batch was driven and answered, and its text is still to be written
pub record HasRun {L : Type 0} (see : L → SeenLink) (service : Service) (opening : Cells)
    (number : ℕ) (before after : Sight L) (run : Run) : Type 0 where
  pub batch : Batch L
  pub driven : HasDriven see service opening 0 number batch before after Stands
  pub items_ : run.items ≡ batch_items number batch
  pub journal_ : run.journal ≡ batch.journal
  pub cells_ : cells_of run.cells ≡ cells_behind service opening number batch
  pub next_ : run.next ≡ number_behind number batch

-- a batch was served, and left these cells and the number of the next link
pub record HasPassed {L : Type 0} (see : L → SeenLink) (service : Service) (opening : Cells)
    (count number : ℕ) (before after : Sight L) (cells : Cells) (next : ℕ) : Type 0 where
  pub batch : Batch L
  pub driven : HasDriven see service opening count number batch before after Wrote
  pub cells_ : cells ≡ cells_behind service opening number batch
  pub number_ : next ≡ number_behind number batch

-- no batch was driven whole: none was begun, or one was, and memory ran out
abbrev pub IsNoneAtOnce : {L : Type 0} → (L → SeenLink) → Service → Cells → ℕ → Sight L → Sight L
    → ServeEnd → Type 0
IsNoneAtOnce {L} see service opening number before after end =
    IsNone see service.framing before after end
    ⊎ ((end ≡ Memory) × ((begun : Batch L) × IsBegun see service opening number begun before after))

-- how a batch ended that was served at once: as in serving, or begun and not driven whole
abbrev pub StopsAtOnce : {L : Type 0} → (L → SeenLink) → Service → Cells → ℕ → ℕ → Sight L → Sight L
    → ServeEnd → Type 0
StopsAtOnce {L} see service opening count number before after end =
    HasStopped see service opening count number before after end
    ⊎ ((end ≡ Memory)
    × ((begun : Batch L) × IsBegun see service opening number begun before after))
