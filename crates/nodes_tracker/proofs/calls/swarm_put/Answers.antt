use Rattle.std.proofs.Common.{◌≤◌, length, sym, subst}
use Rattle.bencoding.specs.Trees.{Tree, spelling}
use Rattle.nodes_tracker.specs.laws.Sizes.{kept_short}
use Rattle.nodes_tracker.proofs.calls.swarm_put.Goals as goal

pub printed-requires : goal.printed-requires
printed-requires c = subst (λ (t : Tree). length (spelling t) ≤ 65536) (sym c.in_ok-kept.ensures)
    (kept_short c.args.swarm.items c.requires.few)
