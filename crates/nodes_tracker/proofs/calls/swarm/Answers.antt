use Rattle.std.proofs.Common.{◌∙◌, ap, sym, subst}
use Rattle.std.specs.FinMap.{get}
use Rattle.nodes_tracker.specs.Calls.{swarm_name, swarm_in}
use Rattle.nodes_tracker.specs.Swarms.{without}
use Rattle.nodes_tracker.specs.steps.Fields.{AreFew}
use Rattle.nodes_tracker.specs.laws.Members.{kept_in, kept_without}
use Rattle.nodes_tracker.proofs.Places.{are_few}
use Rattle.nodes_tracker.proofs.calls.swarm.Goals as goal

pub announce-requires-clause-few : goal.announce-requires-clause-few
announce-requires-clause-few c =
    let hash = c.as_bytes-hash.result.now in
    let address = c.as_bytes-address.result.now in
    let cell = c.args.cell.now in
    subst AreFew (sym (c.take_out.ensures ∙ ap (without address) c.in_ok-others.ensures))
    (are_few (without address (swarm_in cell hash))
    (kept_without address (swarm_in cell hash) (kept_in (get cell (swarm_name hash)))))
