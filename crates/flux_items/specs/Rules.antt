-- What items are read by: the sources' names, kinds and sizes.
use Rattle.std.specs.Prelude.{◌≡◌, ℕ, ◌≤◌, List, length, map, slice_index, Some, sum_by}
use Rattle.std.specs.List.{slice_get, AllByRecursion}
use Rattle.flux_values.specs.declared.values.Kind.{Kind}
use Rattle.flux_values.specs.declared.values.Value.{Value}
use Rattle.flux_values.specs.Identifiers.{IsIdentifier}
use Rattle.flux_values.specs.Values.{kind_of}
use Rattle.flux_model.specs.declared.items.Item.{Item}
use Rattle.flux_model.specs.declared.programs.TheConstants.{COUNT_LIMIT}
use Rattle.flux_items.specs.declared.rules.ItemRules.{ItemRules}
use Rattle.flux_items.specs.declared.rules.TheConstants.{ITEM_LIMIT, SIZE_LIMIT}

-- the source at a place has a name
abbrev pub IsNamed : ItemRules → ℕ → List ℕ → Type 0
IsNamed rules place name = slice_get rules.names place ≡ Some name

-- the source at a place gives values of these kinds
abbrev pub GivesKinds : ItemRules → ℕ → List Kind → Type 0
GivesKinds rules place kinds = slice_get rules.kinds place ≡ Some kinds

-- each source has a name, kinds and a size, and the names are distinct identifiers
pub record AreRules (rules : ItemRules) : Type 0 where
  pub kinds : length rules.kinds ≡ length rules.names
  pub sizes : length rules.sizes ≡ length rules.names
  pub few : length rules.names ≤ COUNT_LIMIT
  pub identifiers : AllByRecursion IsIdentifier rules.names
  pub apart : (a b : ℕ) (name : List ℕ) → IsNamed rules a name → IsNamed rules b name → a ≡ b

-- the sizes of the items' sources, one for each item
abbrev pub total_size : ItemRules → List Item → ℕ
total_size rules items = sum_by (λ item. slice_index rules.sizes item.source.0) items

-- at most 4,096 items, and at most 4,194,304 of their sources' sizes
pub record AreWithin (rules : ItemRules) (items : List Item) : Type 0 where
  pub few : length items ≤ ITEM_LIMIT
  pub small : total_size rules items ≤ SIZE_LIMIT
