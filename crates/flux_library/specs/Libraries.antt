-- What a library may be asked, and what it keeps.
use Rattle.std.specs.Prelude.{◌≡◌, ◌≤◌, ℕ, List, [], ◌∷◌, ◌++◌, length, map, Option, Some, None, IfSome, ⊤}
use Rattle.std.specs.List.{AllByRecursion}
use Rattle.flux_values.specs.declared.values.Kind.{Kind}
use Rattle.flux_values.specs.declared.values.Kind.TheVariants as kinds
use Rattle.flux_values.specs.declared.values.Value.{Value}
use Rattle.flux_values.specs.declared.answers.Mode.TheVariants.{Writer}
use Rattle.flux_values.specs.declared.answers.Answer.{Answer}
use Rattle.flux_values.specs.declared.answers.Put.{Put}
use Rattle.flux_values.specs.declared.answers.CallResult.{CallResult}
use Rattle.flux_values.specs.declared.answers.CallResult.TheVariants.{Good, Bad}
use Rattle.flux_values.specs.declared.meanings.Sig.{Sig}
use Rattle.flux_values.specs.declared.meanings.CellUse.{CellUse}
use Rattle.flux_values.specs.declared.meanings.Role.{Role}
use Rattle.flux_values.specs.declared.meanings.Role.TheVariants.{Plain, Source, HeadSource, LineSource}
use Rattle.flux_values.specs.Values.{kind_of}
use Rattle.flux_values.specs.Reading.{IsValue}
use Rattle.flux_values.specs.declared.texts.TheConstants.{EMISSION_LIMIT, TEXT_LIMIT}
use Rattle.flux_values.specs.Cells.{CellMap}
use Rattle.flux_values.specs.Meanings.{LibraryMeaning}

-- a plain node may be called on values of its kinds, with a cell for each that it uses
pub record Fits (sig : Sig) (args : List Value) (cells : List CellMap) : Type 0 where
  pub role : sig.role ≡ Plain
  pub kinds : map kind_of args ≡ sig.ins
  pub cells_ : length cells ≡ length sig.cells

abbrev pub IsCallable : Option Sig → List Value → List CellMap → Type 0
IsCallable None args cells = ⊥
IsCallable (Some sig) args cells = Fits sig args cells

-- ---- laws

-- a source that reads links gives a number and a text
abbrev pub GivesText : Role → List Kind → Type 0
GivesText Plain outs = ⊤
GivesText Source outs = ⊤
GivesText HeadSource outs = outs ≡ kinds.Int ∷ kinds.Text ∷ []
GivesText LineSource outs = outs ≡ kinds.Int ∷ kinds.Text ∷ []

-- a result is of the node's kinds, or a code from 1 to 255
abbrev pub IsResultOf : List Kind → CallResult → Type 0
IsResultOf outs (Good values) = (map kind_of values ≡ outs) × AllByRecursion IsValue values
IsResultOf outs (Bad code) = (1 ≤ code) × (code ≤ 255)

-- a put is on a cell that the node writes
pub record IsWrite (cells : List CellUse) (put : Put) : Type 0 where
  pub use_ : CellUse
  pub before : List CellUse
  pub after : List CellUse
  pub among : cells ≡ before ++ use_ ∷ after
  pub name : use_.name ≡ put.cell
  pub mode : use_.mode ≡ Writer

pub record IsAnswerOf (sig : Sig) (answer : Answer) : Type 0 where
  pub result : IsResultOf sig.outs answer.result
  pub puts : AllByRecursion (IsWrite sig.cells) answer.puts
  pub emits : length answer.emits ≤ EMISSION_LIMIT

-- the laws of a node: a source that reads links gives a number and a text, and a plain node's answer is as its signature
-- says
pub record IsLawfulSig (sig : Sig) (call : List Value → List CellMap → Answer) : Type 0 where
  pub source : GivesText sig.role sig.outs
  pub answers : (args : List Value) (cells : List CellMap) → Fits sig args cells
      → AllByRecursion IsValue args → IsAnswerOf sig (call args cells)

abbrev pub IsLawfulNode : Option Sig → (List Value → List CellMap → Answer) → Type 0
IsLawfulNode None call = ⊤
IsLawfulNode (Some sig) call = IsLawfulSig sig call

-- the laws of a library: a type that it has is spelled by at most 65,536 bytes, and its nodes keep theirs
pub record IsLawful (meaning : LibraryMeaning) : Type 0 where
  pub short : (ty : List ℕ) → IfSome (meaning.kind ty) (λ _. length ty ≤ TEXT_LIMIT)
  pub nodes : (name : List ℕ) → IsLawfulNode (meaning.node name) (meaning.call name)
