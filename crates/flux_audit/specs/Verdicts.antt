-- Which line of a text breaks a rule first, and which texts are journals of true runs.
use Rattle.std.specs.Prelude.{◌≡◌, ◌⊎◌, ◌<◌, ◌≤◌, ◌+◌, ℕ, Bool, true, false, List, ◌∷◌, ◌++◌, length, drop, Some, ⊤}
use Rattle.std.specs.List.{slice_get}
use Rattle.flow_model.specs.declared.journals.Entry.{Entry}
use Rattle.flow_model.specs.declared.journals.Journal.{Journal}
use Rattle.flow_model.specs.Setup.{Setup}
use Rattle.flow_model.specs.Events.{IsLive}
use Rattle.flow_model.specs.Legal.{IsLegal, IsWhole}
use Rattle.flux_journal.specs.Formats.{head_line}
use Rattle.flux_journal.specs.Spelled.{IsEntryLine}
use Rattle.flux_journal.specs.Journals.{lines_of, is_headed, head_count, event_lines, AreEntryLines}
use Rattle.flux_audit.specs.declared.verdicts.Rule.{Rule}
use Rattle.flux_audit.specs.declared.verdicts.Rule.TheVariants as rules
use Rattle.flux_audit.specs.declared.verdicts.Verdict.{Verdict}
use Rattle.flux_audit.specs.declared.verdicts.Verdict.TheVariants.{Yes, No}
use Rattle.flux_audit.specs.Rules.{Breaks}

-- ---- texts of true runs

-- the first line is the head line for so many flows and as many events as lines follow
abbrev pub FitsHead : Bool → ℕ → List (List ℕ) → Type 0
FitsHead true flows lines = slice_get lines 0 ≡ Some (head_line flows (length (drop 1 lines)))
FitsHead false flows lines = ⊤

-- a text of format 2 has the head line for so many flows
abbrev pub HasHeadFor : ℕ → List ℕ → Type 0
HasHeadFor flows text = FitsHead (is_headed text) flows (lines_of text)

-- a text reads as a journal of the setup's items
pub record ReadsFor (setup : Setup) (text : List ℕ) (journal : Journal) : Type 0 where
  pub head : HasHeadFor (length setup.items) text
  pub lines : AreEntryLines setup.program (event_lines text) journal.entries

-- and the journal is legal and whole
pub record IsTrueText (setup : Setup) (text : List ℕ) (journal : Journal) : Type 0 where
  pub reads : ReadsFor setup text journal
  pub legal : IsLegal setup journal.entries
  pub whole : IsWhole setup journal.entries

-- ---- lines that break a rule

-- a line spells an entry that breaks a rule after the entries before it
pub record SpellsBroken (setup : Setup) (before : List Entry) (line : List ℕ) (rule : Rule) : Type 0 where
  pub entry : Entry
  pub spells : IsEntryLine setup.program line entry
  pub breaks : Breaks setup before entry.flow entry.event rule

-- a line breaks a rule after the entries before it: it spells no entry, or one that breaks it
abbrev pub LineBreaks : Setup → List Entry → List ℕ → Rule → Type 0
LineBreaks setup before line rules.Text = (entry : Entry) → IsEntryLine setup.program line entry → ⊥
LineBreaks setup before line rules.Head = ⊥
LineBreaks setup before line rules.Flow = SpellsBroken setup before line rules.Flow
LineBreaks setup before line rules.Path = SpellsBroken setup before line rules.Path
LineBreaks setup before line rules.Answer = SpellsBroken setup before line rules.Answer
LineBreaks setup before line rules.Hold = SpellsBroken setup before line rules.Hold
LineBreaks setup before line rules.Turn = SpellsBroken setup before line rules.Turn
LineBreaks setup before line rules.Wait = SpellsBroken setup before line rules.Wait
LineBreaks setup before line rules.Short = ⊥

-- head: a text of format 2 hasn't its head line
pub record LacksHead (setup : Setup) (text : List ℕ) (number : ℕ) : Type 0 where
  pub first : number ≡ 1
  pub other : HasHeadFor (length setup.items) text → ⊥

-- a line of this number, counted from 1 and from the head, breaks a rule after the lines before it
pub record HasBroken (setup : Setup) (text : List ℕ) (number : ℕ) (rule : Rule) : Type 0 where
  pub before : List (List ℕ)
  pub line : List ℕ
  pub after : List (List ℕ)
  pub lines : event_lines text ≡ before ++ line ∷ after
  pub entries : List Entry
  pub spelled : AreEntryLines setup.program before entries
  pub place : number ≡ head_count (is_headed text) + length before + 1
  pub breaks : LineBreaks setup entries line rule

-- short: the lines are over, and some flow has no `end`; the number is one more than that of the lines
pub record IsShort (setup : Setup) (text : List ℕ) (number : ℕ) : Type 0 where
  pub entries : List Entry
  pub spelled : AreEntryLines setup.program (event_lines text) entries
  pub flow : ℕ
  pub live : IsLive setup entries flow
  pub place : number ≡ length (lines_of text) + 1

abbrev pub BreaksAt : Setup → List ℕ → ℕ → Rule → Type 0
BreaksAt setup text number rules.Head = LacksHead setup text number
BreaksAt setup text number rules.Text = HasBroken setup text number rules.Text
BreaksAt setup text number rules.Flow = HasBroken setup text number rules.Flow
BreaksAt setup text number rules.Path = HasBroken setup text number rules.Path
BreaksAt setup text number rules.Answer = HasBroken setup text number rules.Answer
BreaksAt setup text number rules.Hold = HasBroken setup text number rules.Hold
BreaksAt setup text number rules.Turn = HasBroken setup text number rules.Turn
BreaksAt setup text number rules.Wait = HasBroken setup text number rules.Wait
BreaksAt setup text number rules.Short = IsShort setup text number

-- ---- the first

-- the order of the rules of one line
abbrev pub rank : Rule → ℕ
rank rules.Head = 1
rank rules.Text = 2
rank rules.Flow = 3
rank rules.Path = 4
rank rules.Answer = 5
rank rules.Hold = 6
rank rules.Turn = 7
rank rules.Wait = 8
rank rules.Short = 9

-- an earlier line, or the same one with a rule that isn't later
abbrev pub IsNotLater : ℕ → Rule → ℕ → Rule → Type 0
IsNotLater number rule other its = (number < other) ⊎ ((number ≡ other) × (rank rule ≤ rank its))

-- the first line that breaks a rule, and of its rules the first
pub record IsFirstBroken (setup : Setup) (text : List ℕ) (number : ℕ) (rule : Rule) : Type 0 where
  pub breaks : BreaksAt setup text number rule
  pub first : (other : ℕ) (its : Rule) → BreaksAt setup text other its → IsNotLater number rule other its

-- ---- verdicts

-- a verdict on a text has its cause
abbrev pub HasVerdict : Setup → List ℕ → Verdict → Type 0
HasVerdict setup text (Yes events) =
    (journal : Journal) × IsTrueText setup text journal × (events ≡ length journal.entries)
HasVerdict setup text (No line rule) = IsFirstBroken setup text line rule
