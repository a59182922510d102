-- What serving has done, batch after batch, and how it ended.
use Rattle.std.specs.Prelude.{◌≡◌, ℕ, ◌+◌, ◌<◌, ◌≤◌, ◌⊎◌, List, [], ◌∷◌, length}
use Rattle.std.specs.Prelude.{Option, None, IfSome}
use Rattle.flow_model.specs.Keys.{Cells}
use Rattle.flux_outside.specs.Causes.{Rose}
use Rattle.flux_outside.specs.Streams.{Stream, Wrote, Broke}
use Rattle.flux_doors.specs.Doors.{waiting, first_link}
use Rattle.flux_doors.specs.declared.framing.Framing.{Framing}
use Rattle.flux_doors.specs.Seen.{SeenLink, SeenDoor, IsSame, IsUnread, TakesBack}
use Rattle.flux_batches.specs.Links.{IsReadNoFurther}
use Rattle.flux_batches.specs.Gathered.{AreGathered}
use Rattle.flux_serve.specs.declared.batches.ServeEnd.{ServeEnd}
use Rattle.flux_serve.specs.declared.batches.ServeEnd.TheVariants.{Closed, Counted, Door}
use Rattle.flux_serve.specs.declared.batches.ServeEnd.TheVariants.{Log, Memory}
use Rattle.flux_serve.specs.Batches.{Service, Batch, IsDriven, batch_text}
use Rattle.flux_serve.specs.Batches.{cells_behind, number_behind, empty_cells}

-- a door and a log: the links to come and those taken back, where they are reported, the door's
-- counts, and the log
pub record Sight (L : Type 0) : Type 0 where
  pub to_come : Option (List (List L))
  pub taken_back : Option (List L)
  pub faults : ℕ
  pub late : ℕ
  pub log : Stream

-- what is seen of a door, beside a log
abbrev pub sight_of : {L : Type 0} → SeenDoor L → Stream → Sight L
sight_of door log = record {
  to_come = door.to_come;
  taken_back = door.taken_back;
  faults = door.faults;
  late = door.late;
  log = log;
}

-- a batch was driven: its links are the first of the door's next batch, one to 64, and went back;
-- the door's count is as before, and that of later accepts didn't fall; the log gained its text, or
-- what is said of it
pub record HasDriven {L : Type 0} (see : L → SeenLink) (service : Service) (opening : Cells)
    (count number : ℕ) (batch : Batch L) (before after : Sight L)
    (Gained : Stream → Stream → List ℕ → Type 0) : Type 0 where
  pub formed : AreGathered before.to_come after.to_come before.late after.late batch.came
  pub size : (0 < length batch.came) × (length batch.came ≤ 64)
  pub driven : IsDriven see service opening number batch
  pub back : TakesBack before.taken_back after.taken_back batch.back
  pub steady : after.faults ≡ before.faults
  pub later : before.late ≤ after.late
  pub gained : Gained before.log after.log (batch_text service count number batch)

-- batches were served one after another: each was driven from the cells that the one before left,
-- and its text was written
abbrev pub AreServed : {L : Type 0} → (L → SeenLink) → Service → Cells → ℕ → ℕ → Sight L → Sight L
    → List (Batch L) → Type 0
AreServed see service opening count number before after [] = after ≡ before
AreServed {L} see service opening count number before after (batch ∷ batches) =
    (mid : Sight L) × HasDriven see service opening count number batch before mid Wrote
    × AreServed see service (cells_behind service opening number batch) (count + 1)
    (number_behind number batch) mid after batches

-- the cells after batches
abbrev pub cells_at_end : {L : Type 0} → Service → Cells → ℕ → List (Batch L) → Cells
cells_at_end service opening number [] = opening
cells_at_end service opening number (batch ∷ batches) =
    cells_at_end service (cells_behind service opening number batch) (number_behind number batch)
    batches

-- the number of the next link after batches
abbrev pub number_at_end : {L : Type 0} → ℕ → List (Batch L) → ℕ
number_at_end number [] = number
number_at_end number (batch ∷ batches) = number_at_end (number_behind number batch) batches

-- ---- the end

-- links went back, each at its place, with nothing written on them; each wasn't read, or no further
-- than its text needs
abbrev pub AreUnwritten : {L : Type 0} → (L → SeenLink) → Framing → List L → List L → Type 0
AreUnwritten see framing [] [] = Unit {0}
AreUnwritten see framing (link ∷ links) (back ∷ backs) =
    let old = see link in let new = see back in
    IsSame old new × (new.stream.written ≡ old.stream.written)
    × (IsUnread old new ⊎ IsReadNoFurther framing old new) × AreUnwritten see framing links backs
AreUnwritten see framing [] (back ∷ backs) = ⊥
AreUnwritten see framing (link ∷ links) [] = ⊥

-- a batch that wasn't driven: the first links of the door's next batch, at most 64; or none, where
-- the door gave nothing; the log and the door's count are as before, and that of later accepts didn't
-- fall
pub record IsUndriven {L : Type 0} (see : L → SeenLink) (framing : Framing) (before after : Sight L)
    : Type 0 where
  pub came : List L
  pub backs : List L
  pub formed : AreGathered before.to_come after.to_come before.late after.late came
      ⊎ ((came ≡ []) × (after.to_come ≡ before.to_come) × (after.late ≡ before.late))
  pub size : length came ≤ 64
  pub back : TakesBack before.taken_back after.taken_back backs
  pub unwritten : AreUnwritten see framing came backs
  pub steady : after.faults ≡ before.faults
  pub later : before.late ≤ after.late
  pub log_ : after.log ≡ before.log

-- the log is as before
abbrev pub Stands : Stream → Stream → List ℕ → Type 0
Stands before after text = after ≡ before

-- how the batch after those that were served ended
abbrev pub HasStopped : {L : Type 0} → (L → SeenLink) → Service → Cells → ℕ → ℕ → Sight L → Sight L
    → ServeEnd → Type 0
HasStopped see service opening count number before after Closed =
    IfSome before.to_come (λ batches. first_link (waiting batches) ≡ None)
    × (after.taken_back ≡ before.taken_back) × (after.log ≡ before.log)
    × (after.faults ≡ before.faults) × (after.late ≡ before.late)
HasStopped see service opening count number before after Counted = ⊥
HasStopped see service opening count number before after Door =
    Rose before.faults after.faults × (after.taken_back ≡ before.taken_back)
    × (after.log ≡ before.log) × (after.to_come ≡ before.to_come) × (after.late ≡ before.late)
HasStopped {L} see service opening count number before after Log =
    (batch : Batch L) × HasDriven see service opening count number batch before after Broke
HasStopped {L} see service opening count number before after Memory =
    IsUndriven see service.framing before after
    ⊎ ((batch : Batch L) × HasDriven see service opening count number batch before after Stands)

-- as many batches as were wanted, or fewer
abbrev pub HasEnded : {L : Type 0} → (L → SeenLink) → Service → ℕ → List (Batch L) → Sight L
    → Sight L → ServeEnd → Type 0
HasEnded see service wanted batches before after Counted =
    (length batches ≡ wanted) × (after ≡ before)
HasEnded see service wanted batches before after end =
    (length batches < wanted)
    × HasStopped see service (cells_at_end service empty_cells 0 batches) (length batches)
    (number_at_end 0 batches) before after end

-- serving: batches that were served, and how it ended after them
pub record HasServed {L : Type 0} (see : L → SeenLink) (service : Service) (wanted : ℕ)
    (before after : Sight L) (end : ServeEnd) : Type 0 where
  pub batches : List (Batch L)
  pub mid : Sight L
  pub served : AreServed see service empty_cells 0 0 before mid batches
  pub ended : HasEnded see service wanted batches mid after end
