-- The items of a text.
use Rattle.std.specs.Prelude.{◌≡◌, ℕ, List, [], ◌∷◌, map, Option, Some, None, ⊤}
use Rattle.std.specs.List.{filter_map}
use Rattle.flux_values.specs.Values.{kind_of}
use Rattle.flux_model.specs.declared.items.Item.{Item}
use Rattle.flux_items.specs.declared.rules.ItemRules.{ItemRules}
use Rattle.flux_items.specs.Lines.{lines_of, IsPassedOver}
use Rattle.flux_items.specs.Spelled.{SpellsItem}
use Rattle.flux_items.specs.Rules.{IsNamed, GivesKinds, AreWithin}

-- a line spells an item of a source: the source's name, and values of the kinds that it gives
pub record IsItemLine (rules : ItemRules) (line : List ℕ) (item : Item) : Type 0 where
  pub name : List ℕ
  pub spelled : SpellsItem line name item.values
  pub named : IsNamed rules item.source.0 name
  pub kinds : GivesKinds rules item.source.0 (map kind_of item.values)

-- a line without a fault gives its item, or none where it is passed over
abbrev pub Gives : ItemRules → List ℕ → Option Item → Type 0
Gives rules line (Some item) = IsItemLine rules line item
Gives rules line None = IsPassedOver line

abbrev pub GiveEach : ItemRules → List (List ℕ) → List (Option Item) → Type 0
GiveEach rules [] [] = ⊤
GiveEach rules [] (given ∷ more) = ⊥
GiveEach rules (line ∷ lines) [] = ⊥
GiveEach rules (line ∷ lines) (given ∷ more) = Gives rules line given × GiveEach rules lines more

-- lines without faults give these items, in order
pub record GiveItems (rules : ItemRules) (lines : List (List ℕ)) (items : List Item) : Type 0 where
  pub given : List (Option Item)
  pub each : GiveEach rules lines given
  pub are : items ≡ filter_map (λ item. item) given

-- the lines of the text give these items, and they are within the limits
pub record AreItemsOf (rules : ItemRules) (items : List Item) (text : List ℕ) : Type 0 where
  pub give : GiveItems rules (lines_of text) items
  pub within : AreWithin rules items
