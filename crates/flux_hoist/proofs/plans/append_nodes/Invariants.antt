use Rattle.std.proofs.Common.{◌≡◌, ◌++◌, slice_get}
use Rattle.std.specs.List.{flat_map, range_with_len}
use Rattle.flux_hoist.specs.Counted.{size_at}
use Rattle.flux_hoist.specs.Plans.{node_part}
use Rattle.flux_hoist.specs.Sets.{held_by}
use Rattle.flux_hoist.proofs.plans.append_nodes.Given as goal

abbrev pub invariant-loop-number : goal.invariant-loop-number
invariant-loop-number g l =
    let p = l.parts.program.now in
    l.out ≡ l.fn.out ++ flat_map (λ number. node_part (g.L.Meaning.meaning l.library) p l.parts.sigs.now (held_by l.parts.sets.now) (size_at l.parts.sizes.now) number (slice_get p.nodes number)) (range_with_len 0 l.number)
