-- Entries of a program: their numbers are in it, and each part is one that a journal can hold.
use Rattle.std.specs.Prelude.{◌≡◌, ℕ, ◌<◌, ◌≤◌, ◌^◌, List, length, Option, Some, None, Bool, true, false, All, ⊤}
use Rattle.std.specs.List.{slice_get, AllByRecursion}
use Rattle.flux_values.specs.declared.values.Value.{Value}
use Rattle.flux_values.specs.declared.texts.TheConstants.{TEXT_LIMIT, EMISSION_LIMIT}
use Rattle.flux_values.specs.declared.answers.CallResult.{CallResult}
use Rattle.flux_values.specs.declared.answers.CallResult.TheVariants as results
use Rattle.flux_values.specs.declared.answers.Put.{Put}
use Rattle.flux_values.specs.Reading.{IsValue}
use Rattle.flux_model.specs.declared.programs.Program.{Program}
use Rattle.flux_model.specs.declared.programs.NodeNo.{NodeNo}
use Rattle.flux_model.specs.declared.programs.Class.{Class}
use Rattle.flow_model.specs.declared.journals.Key.{Key}
use Rattle.flow_model.specs.declared.journals.Outcome.{Outcome}
use Rattle.flow_model.specs.declared.journals.Outcome.TheVariants as outcomes
use Rattle.flow_model.specs.declared.journals.CallMade.{CallMade}
use Rattle.flow_model.specs.declared.journals.Event.{Event}
use Rattle.flow_model.specs.declared.journals.Event.TheVariants.{Take, Wait, Enter, Choose, Call, Exit, Drop, End}
use Rattle.flow_model.specs.declared.journals.Entry.{Entry}

-- a node of the program
abbrev pub IsNodeOf : Program → NodeNo → Type 0
IsNodeOf p node = node.0 < length p.nodes

-- a session's number of 64 bits, exactly for a session class
abbrev pub HasSession : Bool → Option ℕ → Type 0
HasSession true (Some number) = number < 2 ^ 64
HasSession true None = ⊥
HasSession false (Some number) = ⊥
HasSession false None = ⊤

abbrev pub IsKeyIn : Option Class → Option ℕ → Type 0
IsKeyIn None id = ⊥
IsKeyIn (Some class) id = HasSession class.session id

-- a key of one of the program's classes
abbrev pub IsKeyOf : Program → Key → Type 0
IsKeyOf p key = IsKeyIn (slice_get p.classes key.class.0) key.id

-- a code of 16 bits, where there is one
abbrev pub IsOutcome : Outcome → Type 0
IsOutcome outcomes.Good = ⊤
IsOutcome outcomes.Over = ⊤
IsOutcome (outcomes.Bad code) = code < 2 ^ 16

abbrev pub IsResult : CallResult → Type 0
IsResult (results.Good values) = AllByRecursion IsValue values
IsResult (results.Bad code) = code < 2 ^ 16

-- bytes, and not too many
pub record IsTextOf (limit : ℕ) (text : List ℕ) : Type 0 where
  pub each : All (λ b. b < 256) text
  pub few : length text ≤ limit

-- a name of one of the program's classes
pub record IsCellOf (p : Program) (cell : List ℕ) : Type 0 where
  pub place : ℕ
  pub class : Class
  pub at : slice_get p.classes place ≡ Some class
  pub named : class.name ≡ cell

abbrev pub IsValueOrNone : Option Value → Type 0
IsValueOrNone None = ⊤
IsValueOrNone (Some value) = IsValue value

pub record IsPutOf (p : Program) (put : Put) : Type 0 where
  pub cell : IsCellOf p put.cell
  pub name : IsTextOf TEXT_LIMIT put.name
  pub value : IsValueOrNone put.value

pub record IsCallOf (p : Program) (made : CallMade) : Type 0 where
  pub node : IsNodeOf p made.node
  pub args : AllByRecursion IsValue made.args
  pub result_ : IsResult made.answer.result
  pub puts : AllByRecursion (IsPutOf p) made.answer.puts
  pub emits : IsTextOf EMISSION_LIMIT made.answer.emits

abbrev pub IsEventOf : Program → Event → Type 0
IsEventOf p (Take key mode) = IsKeyOf p key
IsEventOf p (Wait key mode) = IsKeyOf p key
IsEventOf p (Enter node) = IsNodeOf p node
IsEventOf p (Choose place) = place < 2 ^ 32
IsEventOf p (Call made) = IsCallOf p made
IsEventOf p (Exit node outcome) = IsNodeOf p node × IsOutcome outcome
IsEventOf p (Drop key) = IsKeyOf p key
IsEventOf p (End outcome) = IsOutcome outcome

pub record IsEntryOf (p : Program) (entry : Entry) : Type 0 where
  pub flow : entry.flow.0 < 2 ^ 32
  pub event_ : IsEventOf p entry.event

abbrev pub AreEntriesOf : Program → List Entry → Type 0
AreEntriesOf p entries = AllByRecursion (IsEntryOf p) entries
