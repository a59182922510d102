-- Steps of the reader: what a line is.
use Rattle.std.specs.Prelude.{◌≡◌, ℕ, List, ◌∷◌, ◌++◌, map, take}
use Rattle.flux_values.specs.declared.values.Kind.{Kind}
use Rattle.flux_values.specs.declared.values.Value.{Value}
use Rattle.flux_values.specs.Values.{kind_of}
use Rattle.flux_values.specs.Identifiers.{IsIdentifier}
use Rattle.flux_model.specs.declared.items.Item.{Item}
use Rattle.flux_items.specs.declared.rules.ItemRules.{ItemRules}
use Rattle.flux_items.specs.declared.lines.LineRead.{LineRead}
use Rattle.flux_items.specs.declared.lines.LineRead.TheVariants as reads
use Rattle.flux_items.specs.Lines.{IsPassedOver}
use Rattle.flux_items.specs.Items.{IsItemLine, GiveItems}
use Rattle.flux_items.specs.Faults.{IsBadItem, HasUnknownSource, HasOtherTypes}
use Rattle.flux_items.specs.Rules.{GivesKinds, AreWithin, total_size}
use Rattle.flux_items.specs.steps.Fronts.{past_blanks}
use Rattle.flux_items.specs.steps.Values.{Close, HaveOtherKinds}

-- what a line is read as
abbrev pub IsLineRead : ItemRules → List ℕ → LineRead → Type 0
IsLineRead rules line reads.PassedOver = IsPassedOver line
IsLineRead rules line (reads.Item item) = IsItemLine rules line item
IsLineRead rules line reads.BadItem = IsBadItem line
IsLineRead rules line reads.UnknownSource = HasUnknownSource rules line
IsLineRead rules line reads.ItemTypes = HasOtherTypes rules line

-- after blanks: an identifier, blanks or none, `(`, and what follows that
pub record HasName (line name behind : List ℕ) : Type 0 where
  pub identifier : IsIdentifier name
  pub rest : List ℕ
  pub front : past_blanks line ≡ name ++ rest
  pub open_ : past_blanks rest ≡ 40 ∷ behind

-- a source gives kinds, and the values of the line have others
pub record HaveOtherThan (rules : ItemRules) (place : ℕ) (text : List ℕ) : Type 0 where
  pub kinds : List Kind
  pub gives : GivesKinds rules place kinds
  pub other : HaveOtherKinds kinds text

-- what is read after the name of the source at a place
abbrev pub IsItemRead : ItemRules → ℕ → List ℕ → LineRead → Type 0
IsItemRead rules place text reads.BadItem = (values : List Value) → Close values text → ⊥
IsItemRead rules place text reads.ItemTypes = HaveOtherThan rules place text
IsItemRead rules place text (reads.Item item) = (item.source.0 ≡ place) × Close item.values text
    × GivesKinds rules place (map kind_of item.values)
IsItemRead rules place text reads.PassedOver = ⊥
IsItemRead rules place text reads.UnknownSource = ⊥

-- what is read after a name that no source has
abbrev pub IsUnknownRead : List ℕ → LineRead → Type 0
IsUnknownRead text reads.BadItem = (values : List Value) → Close values text → ⊥
IsUnknownRead text reads.UnknownSource = (values : List Value) × Close values text
IsUnknownRead text reads.PassedOver = ⊥
IsUnknownRead text reads.ItemTypes = ⊥
IsUnknownRead text (reads.Item item) = ⊥

-- the items of the first lines, and what their sources' sizes sum to
pub record AreItemsSoFar (rules : ItemRules) (lines : List (List ℕ)) (n : ℕ) (items : List Item)
    (size : ℕ) : Type 0 where
  pub give : GiveItems rules (take n lines) items
  pub within : AreWithin rules items
  pub size_ : size ≡ total_size rules items
