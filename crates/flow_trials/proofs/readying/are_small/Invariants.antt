use Rattle.std.proofs.Common.{◌≡◌, ◌+◌, take, slice_index}
use Rattle.std.specs.List.{sum_by}
use Rattle.flux_model.specs.declared.items.Item.{Item}
use Rattle.flow_trials.proofs.readying.are_small.Given as goal

-- what is left, and what the items so far come to
abbrev pub invariant-loop-item : goal.invariant-loop-item
invariant-loop-item l =
    l.left + sum_by (λ (item : Item). slice_index l.sizes item.source.0) (take l.item-index l.items) ≡ 4194304
