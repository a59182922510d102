-- Steps of an audit: what is found of an entry and of a line. No promise cites it.
use Rattle.std.specs.Prelude.{◌≡◌, ◌<◌, ℕ, List, Option, Some, None, ⊤}
use Rattle.flux_values.specs.Meanings.{LibraryMeaning}
use Rattle.flux_model.specs.declared.items.FlowNo.{FlowNo}
use Rattle.flow_model.specs.declared.journals.Event.{Event}
use Rattle.flow_model.specs.declared.journals.Entry.{Entry}
use Rattle.flow_model.specs.Setup.{Setup}
use Rattle.flux_journal.specs.Spelled.{IsEntryLine}
use Rattle.flow_state.specs.declared.coming.Coming.{Coming}
use Rattle.flow_state.specs.declared.coming.Coming.TheVariants.{Take, Enter, Choose, Call, Exit, Drop, End, Ended}
use Rattle.flow_state.specs.States.{SetupState, FlowState, setup_by, setup_at, IsLegalState}
use Rattle.flow_state.specs.Moves.{with_entry}
use Rattle.flux_audit.specs.declared.verdicts.Rule.{Rule}
use Rattle.flux_audit.specs.Rules.{Keeps, Breaks}
use Rattle.flux_audit.specs.Verdicts.{rank}
use Rattle.flux_audit.specs.steps.Lines.{IsPassedTo, IsFirstOfLine}

-- an event that changes no keys but by giving one back
abbrev pub IsPlain : Coming → Type 0
IsPlain (Take key mode) = ⊥
IsPlain (Enter node) = ⊤
IsPlain (Choose number) = ⊤
IsPlain (Call node) = ⊥
IsPlain (Exit node outcome) = ⊤
IsPlain (Drop key) = ⊤
IsPlain (End outcome) = ⊤
IsPlain Ended = ⊥

-- an entry breaks a rule, and keeps those before it
pub record IsFirstOfEntry (setup : Setup) (before : List Entry) (flow : FlowNo) (event : Event) (rule : Rule) : Type 0 where
  pub breaks : Breaks setup before flow event rule
  pub kept : (its : Rule) → rank its < rank rule → Keeps setup before flow event its

module _ {L : Type 0} (meaning : L → LibraryMeaning) (old new : FlowState L) where
  -- it does so, or it is made
  abbrev pub IsChecked : FlowNo → Event → Option Rule → Type 0
  IsChecked flow event (Some rule) = IsFirstOfEntry (setup_at meaning old) old.entries flow event rule
  IsChecked flow event None = new ≡ with_entry old flow event

  -- the entry that a line spells is made
  pub record IsLineMade (line : List ℕ) : Type 0 where
    pub entry : Entry
    pub spells : IsEntryLine old.setup.program line entry
    pub made : new ≡ with_entry old entry.flow entry.event

  abbrev pub IsLineChecked : List ℕ → Option Rule → Type 0
  IsLineChecked line (Some rule) = IsFirstOfLine (setup_at meaning old) old.entries line rule
  IsLineChecked line None = IsLineMade line

-- the lines that are passed are those that a state was led by
pub record IsJudgedTo {L : Type 0} (meaning : L → LibraryMeaning) (setup : SetupState L) (text : List ℕ)
    (left : List (List ℕ)) (state : FlowState L) (number : ℕ) : Type 0 where
  pub same : state.setup ≡ setup
  pub passed : IsPassedTo (setup_by meaning setup) text left state.entries number

-- and the state is legal
pub record IsJudging {L : Type 0} (meaning : L → LibraryMeaning) (setup : SetupState L) (text : List ℕ)
    (left : List (List ℕ)) (state : FlowState L) (number : ℕ) : Type 0 where
  pub judged : IsJudgedTo meaning setup text left state number
  pub legal : IsLegalState meaning state
