-- Steps of reading a line: what each reader of a part answers.
use Rattle.std.specs.Prelude.{◌≡◌, ℕ, List, [], ◌∷◌, ◌++◌, Option, Some, None, Result, Ok, Err, codes, ⊤}
use Rattle.flux_values.specs.declared.values.Value.{Value}
use Rattle.flux_values.specs.declared.values.Value.TheVariants.{Text}
use Rattle.flux_values.specs.declared.texts.TheConstants.{EMISSION_LIMIT}
use Rattle.flux_values.specs.declared.answers.Put.{Put}
use Rattle.flux_values.specs.Spellings.{SpellsText}
use Rattle.flux_model.specs.declared.programs.Program.{Program}
use Rattle.flux_model.specs.declared.programs.NodeNo.{NodeNo}
use Rattle.flow_model.specs.declared.journals.CallMade.{CallMade}
use Rattle.flux_journal.specs.declared.faults.LineFault.{LineFault}
use Rattle.flux_journal.specs.declared.faults.LineFault.TheVariants as faults
use Rattle.flux_journal.specs.Entries.{IsCellOf, IsTextOf}
use Rattle.flux_journal.specs.Spelled.{Behind, Before, BeginEach, BeginsValue, BeginsNext, BeginsPut, IsEmission, IsCallText}

-- what has to be where a line is bad; want of memory says nothing
abbrev pub OnBad : LineFault → Type 0 → Type 0
OnBad faults.BadLine Bad = Bad
OnBad faults.Memory Bad = ⊤

-- no part begins a text
abbrev pub BeginsNone : {X : Type 0} → (List ℕ → X → List ℕ → Type 0) → List ℕ → Type 0
BeginsNone {X} Part text = (x : X) (tail : List ℕ) → Part text x tail → ⊥

-- a part was read, and this comes after it; or none begins the text
abbrev pub IsPartRead : {X : Type 0} → (List ℕ → X → List ℕ → Type 0) → List ℕ → List ℕ
    → Result X LineFault → Type 0
IsPartRead Part text rest (Ok x) = Part text x rest
IsPartRead Part text rest (Err fault) = OnBad fault (BeginsNone Part text)

-- something was read of a whole text; or the text is nothing of the kind
abbrev pub IsWholeRead : {X : Type 0} → (X → Type 0) → Result X LineFault → Type 0
IsWholeRead Is (Ok x) = Is x
IsWholeRead {X} Is (Err fault) = OnBad fault ((x : X) → Is x → ⊥)

-- no text after a word is this one
abbrev pub IsNotBehind : List ℕ → List ℕ → Type 0
IsNotBehind word text = (tail : List ℕ) → text ≡ word ++ tail → ⊥

-- a word was passed
abbrev pub IsWordRead : List ℕ → List ℕ → List ℕ → Result (Unit {0}) LineFault → Type 0
IsWordRead word text rest (Ok done) = text ≡ word ++ rest
IsWordRead word text rest (Err fault) = (fault ≡ faults.BadLine) × IsNotBehind word text

-- values after commas were added to others
pub record AreAdded (old new : List Value) (text rest : List ℕ) : Type 0 where
  pub more : List Value
  pub are : new ≡ old ++ more
  pub each : BeginEach BeginsNext text more rest

-- and no comma follows; or none are before a `)`

abbrev pub NoMore : List ℕ → Type 0
NoMore text = (more : List Value) (tail : List ℕ)
    → BeginEach BeginsNext text more (codes ")" ++ tail) → ⊥

abbrev pub AreMoreRead : List Value → List Value → List ℕ → List ℕ → Result (Unit {0}) LineFault → Type 0
AreMoreRead old new text rest (Ok done) = AreAdded old new text rest × IsNotBehind (codes ", ") rest
AreMoreRead old new text rest (Err fault) = OnBad fault (NoMore text)

-- a class's name and a space
pub record BeginsCell (p : Program) (text cell rest : List ℕ) : Type 0 where
  pub is_cell : IsCellOf p cell
  pub laid : text ≡ (cell ++ codes " ") ++ rest

abbrev pub BeginsName : List ℕ → List ℕ → List ℕ → Type 0
BeginsName text name rest = BeginsValue text (Text name) rest

-- what follows ` put ` or ` cut `
abbrev pub BeginsSet : Program → List ℕ → Put → List ℕ → Option Value → Type 0
BeginsSet p text put rest None = ⊥
BeginsSet p text put rest (Some value) = IsCellOf p put.cell
    × Behind (put.cell ++ codes " ") (λ front. Before BeginsValue
    (Behind (codes " ") (λ behind. BeginsValue behind value rest)) front (Text put.name)) text

abbrev pub BeginsRemoved : Program → List ℕ → Put → List ℕ → Option Value → Type 0
BeginsRemoved p text put rest (Some value) = ⊥
BeginsRemoved p text put rest None = IsCellOf p put.cell
    × Behind (put.cell ++ codes " ") (λ front. BeginsValue front (Text put.name) rest) text

-- no change begins the text
pub record NoPut (text : List ℕ) : Type 0 where
  pub no_put : IsNotBehind (codes " put ") text
  pub no_cut : IsNotBehind (codes " cut ") text

-- a change was read, or there is none
abbrev pub IsPutRead : Program → List ℕ → List ℕ → Option Put → Type 0
IsPutRead p text rest (Some put) = BeginsPut p text put rest
IsPutRead p text rest None = NoPut text × (rest ≡ text)

-- a change begins the text, and it is none
pub record IsBadPut (p : Program) (text : List ℕ) : Type 0 where
  pub marked : NoPut text → ⊥
  pub none : (put : Put) (tail : List ℕ) → BeginsPut p text put tail → ⊥

abbrev pub IsPutOrNone : Program → List ℕ → List ℕ → Result (Option Put) LineFault → Type 0
IsPutOrNone p text rest (Ok read) = IsPutRead p text rest read
IsPutOrNone p text rest (Err fault) = OnBad fault (IsBadPut p text)

-- all changes were read; or none are before an emission
abbrev pub NoPuts : Program → List ℕ → Type 0
NoPuts p text = (puts : List Put) (tail emits : List ℕ)
    → BeginEach (BeginsPut p) text puts tail → IsEmission tail emits → ⊥

abbrev pub ArePutsRead : Program → List ℕ → List ℕ → Result (List Put) LineFault → Type 0
ArePutsRead p text rest (Ok puts) = BeginEach (BeginsPut p) text puts rest × NoPut rest
ArePutsRead p text rest (Err fault) = OnBad fault (NoPuts p text)

-- a text up to the end, and not the empty one
abbrev pub IsEmitted : List ℕ → List ℕ → Type 0
IsEmitted text [] = ⊥
IsEmitted text (b ∷ bytes) = SpellsText text (b ∷ bytes) × IsTextOf EMISSION_LIMIT (b ∷ bytes)

-- the call of a node
abbrev pub IsCallAt : Program → NodeNo → List ℕ → CallMade → Type 0
IsCallAt p node text made = IsCallText p text made × (made.node ≡ node)
