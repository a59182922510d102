-- Steps of reading a line: the word that an event's text begins with, and what follows it.
use Rattle.std.specs.Prelude.{◌≡◌, ℕ, ◌<◌, ◌^◌, List, ◌++◌, Option, Some, None, Result, Ok, Err, codes}
use Rattle.std.specs.Fmt.{decimal}
use Rattle.flux_values.specs.declared.answers.Mode.{Mode}
use Rattle.flux_model.specs.declared.programs.Program.{Program}
use Rattle.flux_model.specs.declared.programs.NodeNo.{NodeNo}
use Rattle.flow_model.specs.declared.journals.Key.{Key}
use Rattle.flow_model.specs.declared.journals.Outcome.{Outcome}
use Rattle.flow_model.specs.declared.journals.CallMade.{CallMade}
use Rattle.flow_model.specs.declared.journals.Event.{Event}
use Rattle.flow_model.specs.declared.journals.Event.TheVariants as events
use Rattle.flux_model.specs.Texts.{node_name}
use Rattle.flow_model.specs.Texts.{printed_exit}
use Rattle.flux_journal.specs.declared.faults.LineFault.{LineFault}
use Rattle.flux_journal.specs.declared.lines.Word.{Word}
use Rattle.flux_journal.specs.declared.lines.Word.TheVariants as words
use Rattle.flux_journal.specs.Entries.{IsNodeOf, IsOutcome}
use Rattle.flux_journal.specs.Spelled.{Behind, IsCallText}
use Rattle.flux_journal.specs.steps.Reading.{OnBad}
use Rattle.flux_journal.specs.steps.Parts.{IsKeyText, IsHoldText, IsEndText}

abbrev pub word_text : Word → List ℕ
word_text words.Take = codes "take"
word_text words.Wait = codes "wait"
word_text words.Enter = codes "enter"
word_text words.Choose = codes "choose"
word_text words.Call = codes "call"
word_text words.Exit = codes "exit"
word_text words.Drop = codes "drop"
word_text words.End = codes "end"

abbrev pub word_of : Event → Word
word_of (events.Take key mode) = words.Take
word_of (events.Wait key mode) = words.Wait
word_of (events.Enter node) = words.Enter
word_of (events.Choose place) = words.Choose
word_of (events.Call made) = words.Call
word_of (events.Exit node outcome) = words.Exit
word_of (events.Drop key) = words.Drop
word_of (events.End outcome) = words.End

abbrev pub IsNodeText : Program → List ℕ → NodeNo → Type 0
IsNodeText p text node = IsNodeOf p node × (text ≡ node_name p node)

pub record IsExitRest (p : Program) (text : List ℕ) (node : NodeNo) (outcome : Outcome) : Type 0 where
  pub node_ : IsNodeOf p node
  pub outcome_ : IsOutcome outcome
  pub laid : text ≡ node_name p node ++ codes " " ++ printed_exit outcome

pub record IsCallRest (p : Program) (text : List ℕ) (made : CallMade) : Type 0 where
  pub node_ : IsNodeOf p made.node
  pub call : Behind (node_name p made.node ++ codes " ") (λ rest. IsCallText p rest made) text

-- what follows an event's word and a space
abbrev pub IsRestOf : Program → List ℕ → Event → Type 0
IsRestOf p text (events.Take key mode) = IsHoldText p text key mode
IsRestOf p text (events.Wait key mode) = IsHoldText p text key mode
IsRestOf p text (events.Enter node) = IsNodeText p text node
IsRestOf p text (events.Choose place) = (place < 2 ^ 32) × (text ≡ decimal place)
IsRestOf p text (events.Call made) = IsCallRest p text made
IsRestOf p text (events.Exit node outcome) = IsExitRest p text node outcome
IsRestOf p text (events.Drop key) = IsKeyText p text key
IsRestOf p text (events.End outcome) = IsEndText text outcome

-- an event of a word
abbrev pub IsRestAt : Program → Word → List ℕ → Event → Type 0
IsRestAt p word text event = (word_of event ≡ word) × IsRestOf p text event

-- no event of a word
abbrev pub IsNoRest : Program → List ℕ → Word → Type 0
IsNoRest p text words.Take = (key : Key) (mode : Mode) → IsHoldText p text key mode → ⊥
IsNoRest p text words.Wait = (key : Key) (mode : Mode) → IsHoldText p text key mode → ⊥
IsNoRest p text words.Enter = (node : NodeNo) → IsNodeText p text node → ⊥
IsNoRest p text words.Choose = (place : ℕ) → (place < 2 ^ 32) × (text ≡ decimal place) → ⊥
IsNoRest p text words.Call = (made : CallMade) → IsCallRest p text made → ⊥
IsNoRest p text words.Exit = (node : NodeNo) (outcome : Outcome) → IsExitRest p text node outcome → ⊥
IsNoRest p text words.Drop = (key : Key) → IsKeyText p text key → ⊥
IsNoRest p text words.End = (outcome : Outcome) → IsEndText text outcome → ⊥

-- what is read after a word that isn't a call's
abbrev pub IsPlainRead : Program → Word → List ℕ → Option Event → Type 0
IsPlainRead p word text (Some event) = IsRestAt p word text event
IsPlainRead p word text None = IsNoRest p text word

abbrev pub IsRestRead : Program → Word → List ℕ → Result Event LineFault → Type 0
IsRestRead p word text (Ok event) = IsRestAt p word text event
IsRestRead p word text (Err fault) = OnBad fault (IsNoRest p text word)
