-- The faults of an items text, and where each is.
use Rattle.std.specs.Prelude.{◌≡◌, ◌⊎◌, ℕ, ◌+◌, ◌<◌, List, [], ◌∷◌, ◌++◌, length, map, Result, Ok, Err}
use Rattle.flux_values.specs.declared.values.Value.{Value}
use Rattle.flux_values.specs.Values.{kind_of}
use Rattle.flux_model.specs.declared.items.Item.{Item}
use Rattle.flux_items.specs.declared.rules.ItemRules.{ItemRules}
use Rattle.flux_items.specs.declared.rules.ItemFault.{ItemFault}
use Rattle.flux_items.specs.declared.rules.ItemFault.TheVariants as faults
use Rattle.flux_items.specs.declared.rules.TheConstants.{ITEM_LIMIT, SIZE_LIMIT}
use Rattle.flux_items.specs.Lines.{lines_of, IsPassedOver}
use Rattle.flux_items.specs.Spelled.{SpellsItem}
use Rattle.flux_items.specs.Rules.{IsNamed, GivesKinds, AreWithin, total_size}
use Rattle.flux_items.specs.Items.{IsItemLine, GiveItems, AreItemsOf}

-- ---- the faults of a line

-- the line isn't passed over, and spells no name with values
pub record IsBadItem (line : List ℕ) : Type 0 where
  pub read : IsPassedOver line → ⊥
  pub other : (name : List ℕ) (values : List Value) → SpellsItem line name values → ⊥

-- the line spells a name that no source has
pub record HasUnknownSource (rules : ItemRules) (line : List ℕ) : Type 0 where
  pub name : List ℕ
  pub values : List Value
  pub spelled : SpellsItem line name values
  pub unknown : (place : ℕ) → IsNamed rules place name → ⊥

-- the line spells a source's name with values of other kinds than the source gives
pub record HasOtherTypes (rules : ItemRules) (line : List ℕ) : Type 0 where
  pub name : List ℕ
  pub values : List Value
  pub place : ℕ
  pub spelled : SpellsItem line name values
  pub named : IsNamed rules place name
  pub other : GivesKinds rules place (map kind_of values) → ⊥

-- the line spells an item that is one too many after these, or takes the sizes past their limit
pub record IsTooMuch (rules : ItemRules) (items : List Item) (line : List ℕ) : Type 0 where
  pub item : Item
  pub spelled : IsItemLine rules line item
  pub past : (ITEM_LIMIT < length items + 1) ⊎ (SIZE_LIMIT < total_size rules (items ++ item ∷ []))

-- ---- the faults of a text

-- a fault's cause, in its line and the items before it
abbrev pub HasFault : ItemRules → List Item → List ℕ → ItemFault → Type 0
HasFault rules items line (faults.BadItem number) = IsBadItem line
HasFault rules items line (faults.UnknownSource number) = HasUnknownSource rules line
HasFault rules items line (faults.ItemTypes number) = HasOtherTypes rules line
HasFault rules items line (faults.TooMany number) = IsTooMuch rules items line
HasFault rules items line faults.Memory = ⊥

-- the number of a fault's line, from 1
abbrev pub line_of : ItemFault → ℕ
line_of (faults.BadItem number) = number
line_of (faults.UnknownSource number) = number
line_of (faults.ItemTypes number) = number
line_of (faults.TooMany number) = number
line_of faults.Memory = 0

-- the first faulty line has this fault: those before it give items, which are within the limits
pub record IsFaultOf (rules : ItemRules) (fault : ItemFault) (text : List ℕ) : Type 0 where
  pub before : List (List ℕ)
  pub line : List ℕ
  pub after : List (List ℕ)
  pub items : List Item
  pub lines : lines_of text ≡ before ++ line ∷ after
  pub place : line_of fault ≡ length before + 1
  pub give : GiveItems rules before items
  pub within : AreWithin rules items
  pub cause : HasFault rules items line fault

-- ---- answers

-- an answer has its cause
abbrev pub HasCause : ItemRules → List ℕ → Result (List Item) ItemFault → Type 0
HasCause rules text (Ok items) = AreItemsOf rules items text
HasCause rules text (Err fault) = (fault ≡ faults.Memory) ⊎ IsFaultOf rules fault text
