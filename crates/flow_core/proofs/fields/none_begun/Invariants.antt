use Rattle.std.proofs.Common.{◌≡◌, Option, None, map, take}
use Rattle.flux_model.specs.declared.items.Item.{Item}
use Rattle.flow_state.specs.declared.inputs.Inputs.{Inputs}
use Rattle.flow_core.proofs.fields.none_begun.Given as goal

abbrev pub invariant-loop-item : goal.invariant-loop-item
invariant-loop-item l = l.begun.items ≡ map {B = Option Inputs} (λ (item : Item). None) (take l.item-index l.items)
