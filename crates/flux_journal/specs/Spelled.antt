-- Which lines spell an entry: its printed line, with values and texts in any spelling.
use Rattle.std.specs.Prelude.{◌≡◌, ℕ, ◌<◌, ◌^◌, List, [], ◌∷◌, ◌++◌, Option, Some, None, codes}
use Rattle.std.specs.Fmt.{decimal}
use Rattle.flux_values.specs.declared.values.Value.{Value}
use Rattle.flux_values.specs.declared.values.Value.TheVariants.{Text}
use Rattle.flux_values.specs.declared.texts.TheConstants.{EMISSION_LIMIT}
use Rattle.flux_values.specs.declared.answers.CallResult.{CallResult}
use Rattle.flux_values.specs.declared.answers.CallResult.TheVariants as results
use Rattle.flux_values.specs.declared.answers.Put.{Put}
use Rattle.flux_values.specs.Reading.{EndsBefore, NoDigitFirst}
use Rattle.flux_values.specs.Spellings.{Spells, SpellsText}
use Rattle.flux_model.specs.declared.programs.Program.{Program}
use Rattle.flow_model.specs.declared.journals.CallMade.{CallMade}
use Rattle.flow_model.specs.declared.journals.Event.{Event}
use Rattle.flow_model.specs.declared.journals.Event.TheVariants.{Take, Wait, Enter, Choose, Call, Exit, Drop, End}
use Rattle.flow_model.specs.declared.journals.Entry.{Entry}
use Rattle.flux_model.specs.Texts.{node_name}
use Rattle.flow_model.specs.Texts.{printed_event}
use Rattle.flux_journal.specs.Entries.{IsNodeOf, IsKeyOf, IsOutcome, IsCellOf, IsTextOf}

-- ---- what begins a text, and what follows it

-- a word, and after it what has to follow
pub record Behind (word : List ℕ) (Then : List ℕ → Type 0) (text : List ℕ) : Type 0 where
  pub rest : List ℕ
  pub laid : text ≡ word ++ rest
  pub then_ : Then rest

-- a part that gives something, and after it what has to follow
pub record Before {X : Type 0} (Part : List ℕ → X → List ℕ → Type 0) (Then : List ℕ → Type 0)
    (text : List ℕ) (given : X) : Type 0 where
  pub rest : List ℕ
  pub part : Part text given rest
  pub then_ : Then rest

-- such parts, one after the other
abbrev pub BeginEach :
    {X : Type 0} → (List ℕ → X → List ℕ → Type 0) → List ℕ → List X → List ℕ → Type 0
BeginEach Part text [] rest = text ≡ rest
BeginEach Part text (x ∷ xs) rest = Before Part (λ behind. BeginEach Part behind xs rest) text x

-- ---- a call

-- a spelling of a value; after that of an Int is no digit
pub record BeginsValue (text : List ℕ) (value : Value) (rest : List ℕ) : Type 0 where
  pub spelling : List ℕ
  pub spells : Spells spelling value
  pub ends : EndsBefore value rest
  pub laid : text ≡ spelling ++ rest

-- a value after a comma and a space
abbrev pub BeginsNext : List ℕ → Value → List ℕ → Type 0
BeginsNext text value rest = Behind (codes ", ") (λ front. BeginsValue front value rest) text

-- values with commas between them, and `)`
abbrev pub BeginClosed : List ℕ → List Value → List ℕ → Type 0
BeginClosed text [] rest = text ≡ codes ")" ++ rest
BeginClosed text (value ∷ values) rest =
    Before BeginsValue (λ behind. BeginEach BeginsNext behind values (codes ")" ++ rest)) text value

-- values in parentheses
abbrev pub BeginValues : List ℕ → List Value → List ℕ → Type 0
BeginValues text values rest = Behind (codes "(") (λ front. BeginClosed front values rest) text

-- a code of 16 bits
pub record BeginsCode (text : List ℕ) (code : ℕ) (rest : List ℕ) : Type 0 where
  pub small : code < 2 ^ 16
  pub ends : NoDigitFirst rest
  pub laid : text ≡ decimal code ++ rest

-- a result
abbrev pub BeginsResult : List ℕ → CallResult → List ℕ → Type 0
BeginsResult text (results.Good values) rest =
    Behind (codes "ok ") (λ front. BeginValues front values rest) text
BeginsResult text (results.Bad code) rest =
    Behind (codes "fail ") (λ front. BeginsCode front code rest) text

-- a change of a cell: a name that is removed, or one with the value that it is set to
abbrev pub BeginsChange : List ℕ → List ℕ → List ℕ → Option Value → List ℕ → Type 0
BeginsChange text cell name None rest =
    Behind (codes " cut ") (Behind (cell ++ codes " ") (λ front. BeginsValue front (Text name) rest)) text
BeginsChange text cell name (Some value) rest =
    Behind (codes " put ") (Behind (cell ++ codes " ") (λ front. Before BeginsValue
    (Behind (codes " ") (λ behind. BeginsValue behind value rest)) front (Text name))) text

pub record BeginsPut (p : Program) (text : List ℕ) (put : Put) (rest : List ℕ) : Type 0 where
  pub cell : IsCellOf p put.cell
  pub change : BeginsChange text put.cell put.name put.value rest

-- an emission, if it isn't empty, up to the end
abbrev pub IsEmission : List ℕ → List ℕ → Type 0
IsEmission text [] = text ≡ []
IsEmission text (b ∷ bytes) = Behind (codes " emits ")
    (λ front. SpellsText front (b ∷ bytes) × IsTextOf EMISSION_LIMIT (b ∷ bytes)) text

-- what follows the node's name
pub record IsCallText (p : Program) (text : List ℕ) (made : CallMade) : Type 0 where
  pub result_text : List ℕ
  pub puts_text : List ℕ
  pub emission_text : List ℕ
  pub args : BeginValues text made.args (codes " " ++ result_text)
  pub result_ : BeginsResult result_text made.answer.result puts_text
  pub puts : BeginEach (BeginsPut p) puts_text made.answer.puts emission_text
  pub emission : IsEmission emission_text made.answer.emits

-- ---- lines

-- a line's text after the flow's number
abbrev pub IsEventText : Program → List ℕ → Event → Type 0
IsEventText p text (Take key mode) = IsKeyOf p key × (text ≡ printed_event p (Take key mode))
IsEventText p text (Wait key mode) = IsKeyOf p key × (text ≡ printed_event p (Wait key mode))
IsEventText p text (Enter node) = IsNodeOf p node × (text ≡ printed_event p (Enter node))
IsEventText p text (Choose place) = (place < 2 ^ 32) × (text ≡ printed_event p (Choose place))
IsEventText p text (Call made) = IsNodeOf p made.node
    × Behind (codes "call " ++ node_name p made.node ++ codes " ") (λ rest. IsCallText p rest made) text
IsEventText p text (Exit node outcome) =
    IsNodeOf p node × IsOutcome outcome × (text ≡ printed_event p (Exit node outcome))
IsEventText p text (Drop key) = IsKeyOf p key × (text ≡ printed_event p (Drop key))
IsEventText p text (End outcome) = IsOutcome outcome × (text ≡ printed_event p (End outcome))

-- a line, without its LF, spells an entry of the program
pub record IsEntryLine (p : Program) (line : List ℕ) (entry : Entry) : Type 0 where
  pub flow : entry.flow.0 < 2 ^ 32
  pub event_text : List ℕ
  pub front : line ≡ decimal entry.flow.0 ++ codes " " ++ event_text
  pub event_ : IsEventText p event_text entry.event
