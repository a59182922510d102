-- Steps of reading a journal: its lines, its head line, and the entries of lines.
use Rattle.std.specs.Prelude.{◌≡◌, ℕ, ◌+◌, ◌<◌, ◌≤◌, ◌^◌, List, ◌∷◌, ◌++◌, length, Result, Ok, Err, ⊤}
use Rattle.flux_model.specs.declared.programs.Program.{Program}
use Rattle.flow_model.specs.declared.journals.Entry.{Entry}
use Rattle.flow_model.specs.declared.journals.Journal.{Journal}
use Rattle.flux_journal.specs.declared.faults.JournalFault.{JournalFault}
use Rattle.flux_journal.specs.declared.faults.JournalFault.TheVariants as faults
use Rattle.flux_journal.specs.Formats.{head_line}
use Rattle.flux_journal.specs.Spelled.{IsEntryLine}
use Rattle.flux_journal.specs.Journals.{lines_of, AreEntryLines}

-- the first line of a text, and what follows it
pub record IsFirstLine (text line behind : List ℕ) : Type 0 where
  pub lines : lines_of text ≡ line ∷ lines_of behind
  pub shorter : length behind < length text

-- a head line for so many events
pub record IsHeadFor (line : List ℕ) (events : ℕ) : Type 0 where
  pub flows : ℕ
  pub small : flows < 2 ^ 32
  pub fits : events < 2 ^ 64
  pub is : line ≡ head_line flows events

-- the first bad line of some lines, whose first has this number
pub record IsBadAmong (p : Program) (lines : List (List ℕ)) (first number : ℕ) : Type 0 where
  pub before : List (List ℕ)
  pub line : List ℕ
  pub after : List (List ℕ)
  pub entries : List Entry
  pub are : lines ≡ before ++ line ∷ after
  pub good : AreEntryLines p before entries
  pub bad : (entry : Entry) → IsEntryLine p line entry → ⊥
  pub place : number ≡ first + length before

-- the entries of lines were read, or the first bad one was found
abbrev pub AreEntriesRead : Program → List (List ℕ) → ℕ → Result Journal JournalFault → Type 0
AreEntriesRead p lines first (Ok journal) = AreEntryLines p lines journal.entries
AreEntriesRead p lines first (Err (faults.BadLine number)) = IsBadAmong p lines first number
AreEntriesRead p lines first (Err faults.Memory) = ⊤

-- the lines so far, their entries, and the number of the next
pub record AreReadSoFar (p : Program) (text rest : List ℕ) (entries : List Entry) (first number : ℕ)
    : Type 0 where
  pub before : List (List ℕ)
  pub are : lines_of text ≡ before ++ lines_of rest
  pub each : AreEntryLines p before entries
  pub place : number ≡ first + length before
  pub room : length before + length rest ≤ length text

-- so many lines so far
pub record AreCountedSoFar (text rest : List ℕ) (count : ℕ) : Type 0 where
  pub counted : count + length (lines_of rest) ≡ length (lines_of text)
  pub room : count + length rest ≤ length text
