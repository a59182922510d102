-- Steps of an audit: how far the lines are passed. No promise cites it.
use Rattle.std.specs.Prelude.{◌≡◌, ◌≤◌, ◌+◌, ℕ, List, ◌∷◌, ◌++◌, length}
use Rattle.flow_model.specs.declared.journals.Entry.{Entry}
use Rattle.flow_model.specs.Setup.{Setup}
use Rattle.flux_model.specs.declared.programs.Program.{Program}
use Rattle.flux_journal.specs.Spelled.{IsEntryLine}
use Rattle.flux_journal.specs.Journals.{is_headed, head_count, event_lines, AreEntryLines}
use Rattle.flux_audit.specs.declared.verdicts.Rule.{Rule}
use Rattle.flux_audit.specs.declared.heads.Opened.{Opened}
use Rattle.flux_audit.specs.Verdicts.{HasHeadFor, LineBreaks, BreaksAt, rank}

-- the lines before those that are left spell these entries, and no line before the next breaks a rule
pub record IsPassedTo (setup : Setup) (text : List ℕ) (left : List (List ℕ)) (entries : List Entry) (number : ℕ)
    : Type 0 where
  pub head : HasHeadFor (length setup.items) text
  pub before : List (List ℕ)
  pub are : event_lines text ≡ before ++ left
  pub spelled : AreEntryLines setup.program before entries
  pub place : number ≡ head_count (is_headed text) + length before + 1
  pub none : (other : ℕ) (its : Rule) → BreaksAt setup text other its → number ≤ other

-- of the rules that a line breaks after these entries, the first
pub record IsFirstOfLine (setup : Setup) (entries : List Entry) (line : List ℕ) (rule : Rule) : Type 0 where
  pub breaks : LineBreaks setup entries line rule
  pub first : (its : Rule) → LineBreaks setup entries line its → rank rule ≤ rank its

-- an entry among those that lines spell
pub record IsAmong (p : Program) (before : List (List ℕ)) (line : List ℕ) (entries : List Entry) : Type 0 where
  pub front : List Entry
  pub entry : Entry
  pub back : List Entry
  pub are : entries ≡ front ++ entry ∷ back
  pub spelled : AreEntryLines p before front
  pub spells : IsEntryLine p line entry

-- the lines of events of a text that has its head line, and the number of the first of them
pub record IsOpened (flows : ℕ) (text : List ℕ) (opened : Opened) : Type 0 where
  pub head : HasHeadFor flows text
  pub lines_ : opened.lines ≡ event_lines text
  pub first_ : opened.first ≡ head_count (is_headed text) + 1
