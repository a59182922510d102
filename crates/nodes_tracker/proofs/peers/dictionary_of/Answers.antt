use Rattle.std.proofs.Common.{◌≡◌, ◌∙◌, ap}
use Rattle.std.proofs.lemmas.Iterator.Adapters.{YieldsList-from_vec}
use Rattle.std.proofs.lemmas.Iterator.Consumers.{YieldsList-end}
use Rattle.bencoding.specs.Trees.{dictionary}
use Rattle.bencoding.specs.steps.Printed.{fields_view}
use Rattle.nodes_tracker.specs.Swarms.{fields_of}
use Rattle.nodes_tracker.proofs.Trees.{view_fields}
use Rattle.nodes_tracker.proofs.Places.{kept_view}
use Rattle.nodes_tracker.proofs.Yielded.{same_yielded}
use Rattle.nodes_tracker.proofs.peers.dictionary_of.Goals as goal

pub returns : goal.returns
returns c =
    let gives = c.into_iter-peer-iterator.ensures.into_iter_gives in
    let end = YieldsList-end (YieldsList-from_vec {s = c.into_iter-peer-iterator.result} c.args.peers.items gives.0
    (gives.1 ∙ c.args.peers.ok.0)) c.loop-peer.yielded
    c.loop-peer.peer-iterator c.loop-peer.yielded_by c.next.result c.next.new.self c.in-None.is c.next.ensures.steps in
    let all : c.loop-peer.yielded ≡ c.args.peers.items = same_yielded c.loop-peer.yielded c.args.peers.items end.0 in
    view_fields c.loop-peer.fields
    ∙ ap (λ fields. dictionary (fields_view fields)) c.loop-peer.invariant
    ∙ ap dictionary (kept_view c.loop-peer.yielded ∙ ap fields_of all)
