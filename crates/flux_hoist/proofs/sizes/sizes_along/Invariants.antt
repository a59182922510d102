use Rattle.std.proofs.Common.{◌≡◌, fold, length, replicate, take}
use Rattle.flux_hoist.specs.Sets.{held_by}
use Rattle.flux_hoist.specs.steps.Sizing.{put_size}
use Rattle.flux_hoist.proofs.sizes.sizes_along.Given as goal

abbrev pub invariant-loop-number : goal.invariant-loop-number
invariant-loop-number l = l.sizes ≡ fold (put_size (held_by l.sets) l.nodes) (replicate (length l.nodes) 0) (take l.number-index l.order)
