use Rattle.std.proofs.Common.{not, rules}
use Rattle.std.specs.Str.{bytes_eq}
use Rattle.std.proofs.lemmas.Fn.{filter_same}
use Rattle.nodes_tracker.specs.declared.peers.Peer.{Peer}
use Rattle.nodes_tracker.proofs.peers.take_out.Goals as goal

pub returns : goal.returns
returns c =
    filter_same _ (λ (p : Peer). not (bytes_eq p.address c.args.address.now)) _ (λ p b f' h. search rules) _ _
    c.retain.ensures.filtered
