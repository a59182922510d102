-- Which texts read as a journal, and where a text has its first bad line.
use Rattle.std.specs.Prelude.{◌≡◌, ◌⊎◌, ℕ, ◌+◌, ◌<◌, ◌^◌, ◌==◌, Bool, true, false, nat_eq, List, [], ◌∷◌, ◌++◌, length, drop, Some, Result, Ok, Err, ⊤}
use Rattle.std.specs.List.{slice_get, slice_split, starts_with}
use Rattle.flux_model.specs.declared.programs.Program.{Program}
use Rattle.flow_model.specs.declared.journals.Entry.{Entry}
use Rattle.flow_model.specs.declared.journals.Journal.{Journal}
use Rattle.flux_journal.specs.declared.faults.LineFault.{LineFault}
use Rattle.flux_journal.specs.declared.faults.LineFault.TheVariants as line_faults
use Rattle.flux_journal.specs.declared.faults.JournalFault.{JournalFault}
use Rattle.flux_journal.specs.declared.faults.JournalFault.TheVariants as faults
use Rattle.flux_journal.specs.Formats.{head_mark, head_line}
use Rattle.flux_journal.specs.Spelled.{IsEntryLine}

-- ---- lines

-- LF
abbrev pub is_line_end : ℕ → Bool
is_line_end b = b == 10

-- pieces without a last one that is empty
abbrev pub without_empty_last : List (List ℕ) → List (List ℕ)
without_empty_last [] = []
without_empty_last ([] ∷ []) = []
without_empty_last ((b ∷ piece) ∷ []) = (b ∷ piece) ∷ []
without_empty_last (piece ∷ next ∷ pieces) = piece ∷ without_empty_last (next ∷ pieces)

-- the lines of a text, each ended by LF, which the last may lack
abbrev pub lines_of : List ℕ → List (List ℕ)
lines_of text = without_empty_last (slice_split is_line_end text)

-- ---- formats

-- a text of format 2 begins with a head's mark, and every other is of format 1
abbrev pub is_headed : List ℕ → Bool
is_headed text = starts_with nat_eq text head_mark

-- how many lines are before the events'
abbrev pub head_count : Bool → ℕ
head_count true = 1
head_count false = 0

-- the lines of the events
abbrev pub event_lines : List ℕ → List (List ℕ)
event_lines text = drop (head_count (is_headed text)) (lines_of text)

-- the first line is the head line for some number of flows and as many events as lines follow
pub record HasHead (lines : List (List ℕ)) : Type 0 where
  pub flows : ℕ
  pub small : flows < 2 ^ 32
  pub is : slice_get lines 0 ≡ Some (head_line flows (length (drop 1 lines)))

abbrev pub FitsFormat : Bool → List (List ℕ) → Type 0
FitsFormat true lines = HasHead lines
FitsFormat false lines = ⊤

-- a text has its head line where it is of format 2
abbrev pub IsWellHeaded : List ℕ → Type 0
IsWellHeaded text = FitsFormat (is_headed text) (lines_of text)

-- ---- journals

-- lines that spell entries, one for each
abbrev pub AreEntryLines : Program → List (List ℕ) → List Entry → Type 0
AreEntryLines p [] [] = ⊤
AreEntryLines p [] (entry ∷ entries) = ⊥
AreEntryLines p (line ∷ lines) [] = ⊥
AreEntryLines p (line ∷ lines) (entry ∷ entries) = IsEntryLine p line entry × AreEntryLines p lines entries

-- a text reads as a journal
pub record ReadsAs (p : Program) (text : List ℕ) (journal : Journal) : Type 0 where
  pub head : IsWellHeaded text
  pub lines : AreEntryLines p (event_lines text) journal.entries

-- the head line is missing, has another form or another number of lines
pub record IsHeadBad (text : List ℕ) (number : ℕ) : Type 0 where
  pub first : number ≡ 1
  pub other : IsWellHeaded text → ⊥

-- a line spells no entry, and those before it do; lines are counted from 1, and from the head
pub record IsEventBad (p : Program) (text : List ℕ) (number : ℕ) : Type 0 where
  pub head : IsWellHeaded text
  pub before : List (List ℕ)
  pub line : List ℕ
  pub after : List (List ℕ)
  pub entries : List Entry
  pub lines : event_lines text ≡ before ++ line ∷ after
  pub good : AreEntryLines p before entries
  pub bad : (entry : Entry) → IsEntryLine p line entry → ⊥
  pub place : number ≡ head_count (is_headed text) + length before + 1

-- the first bad line
abbrev pub IsBadLine : Program → List ℕ → ℕ → Type 0
IsBadLine p text number = IsHeadBad text number ⊎ IsEventBad p text number

-- ---- answers

-- an answer about a line has its cause
abbrev pub HasLineCause : Program → List ℕ → Result Entry LineFault → Type 0
HasLineCause p line (Ok entry) = IsEntryLine p line entry
HasLineCause p line (Err line_faults.BadLine) = (entry : Entry) → IsEntryLine p line entry → ⊥
HasLineCause p line (Err line_faults.Memory) = ⊤

-- an answer about a text has its cause
abbrev pub HasCause : Program → List ℕ → Result Journal JournalFault → Type 0
HasCause p text (Ok journal) = ReadsAs p text journal
HasCause p text (Err (faults.BadLine number)) = IsBadLine p text number
HasCause p text (Err faults.Memory) = ⊤
