use Rattle.std.proofs.Common.{◌≡◌, ◌∙◌}
use Rattle.std.proofs.lemmas.Iterator.Adapters.{YieldsList-from_vec}
use Rattle.std.proofs.lemmas.Iterator.Consumers.{YieldsList-end}
use Rattle.flux_swarms.proofs.Yielded.{same_yielded}
use Rattle.flux_swarms.proofs.journal_peers.listed.Goals as goal

pub returns : goal.returns
returns c =
    let gives = c.into_iter-peer-iterator.ensures.into_iter_gives in
    let end = YieldsList-end (YieldsList-from_vec {s = c.into_iter-peer-iterator.result} c.args.swarm.items gives.0
    (gives.1 ∙ c.args.swarm.ok.0)) c.loop-peer.yielded
    c.loop-peer.peer-iterator c.loop-peer.yielded_by c.next.result c.next.new.self c.in-None.is c.next.ensures.steps in
    let all : c.loop-peer.yielded ≡ c.args.swarm.items = same_yielded c.loop-peer.yielded c.args.swarm.items end.0 in
    c.loop-peer.invariant ∙ all
