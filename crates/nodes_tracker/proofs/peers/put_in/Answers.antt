use Rattle.std.proofs.Common.{ℕ, List, sym, ap, ◌∙◌}
use Rattle.std.specs.List.{insert, prefix_len}
use Rattle.nodes_tracker.specs.declared.peers.Peer.{Peer}
use Rattle.nodes_tracker.specs.Swarms.{is_below}
use Rattle.nodes_tracker.proofs.Places.{put_at}
use Rattle.nodes_tracker.proofs.peers.put_in.Goals as goal

pub returns : goal.returns
returns c =
    let peers = c.args.peers.now.items in
    let peer = c.args.peer in
    c.in_ok-insert.ensures.items
    ∙ ap (λ (n : ℕ). insert peers n peer) (c.place_of-place.ensures.place
    ∙ ap (λ (a : List ℕ). prefix_len (λ (p : Peer). is_below p.address a) c.deref.result.now) c.as_bytes.ensures
    ∙ ap (λ (ps : List Peer). prefix_len (λ (p : Peer). is_below p.address peer.address) ps) c.deref.ensures.value)
    ∙ sym (put_at peer peers)
