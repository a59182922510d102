use Rattle.std.proofs.Common.{slice_get}
use Rattle.flux_hoist.specs.Counted.{size_at}
use Rattle.flux_hoist.specs.Plans.{node_part}
use Rattle.flux_hoist.specs.Sets.{held_by}
use Rattle.flux_hoist.proofs.SaidPieces.{numbered_more}
use Rattle.flux_hoist.proofs.plans.append_nodes.Goals as goal

pub loop-number-preserved : goal.loop-number-preserved
loop-number-preserved g c =
    let p = c.args.parts.now.program.now in
    numbered_more (λ number. node_part (g.L.Meaning.meaning c.args.library.now) p c.args.parts.now.sigs.now (held_by c.args.parts.now.sets.now) (size_at c.args.parts.now.sizes.now) number (slice_get p.nodes number))
    c.loop-number.number c.args.out.now c.loop-number.out c.append_node_part.new.out c.loop-number.invariant c.in_ok-append_node_part.ensures
