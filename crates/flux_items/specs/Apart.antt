-- A text gives items or has a fault, and not both.
use Rattle.std.specs.Prelude.{ℕ, List}
use Rattle.flux_model.specs.declared.items.Item.{Item}
use Rattle.flux_items.specs.declared.rules.ItemRules.{ItemRules}
use Rattle.flux_items.specs.declared.rules.ItemFault.{ItemFault}
use Rattle.flux_items.specs.Rules.{AreRules}
use Rattle.flux_items.specs.Items.{AreItemsOf}
use Rattle.flux_items.specs.Faults.{IsFaultOf}

abbrev pub ItemsHaveNoFault : Type 0
ItemsHaveNoFault = (rules : ItemRules) → AreRules rules → (text : List ℕ) (items : List Item) (fault : ItemFault)
    → AreItemsOf rules items text → IsFaultOf rules fault text → ⊥
