use Rattle.std.proofs.Common.{◌≡◌, ◌+◌, drop}
use Rattle.std.specs.List.{prefix_len}
use Rattle.nodes_tracker.specs.Swarms.{is_below}
use Rattle.nodes_tracker.proofs.peers.place_of.Given as goal

abbrev pub invariant-loop-place : goal.invariant-loop-place
invariant-loop-place l =
    l.place + prefix_len (λ p. is_below p.address l.address) (drop l.place l.peers) ≡ prefix_len
    (λ p. is_below p.address l.address) l.peers
