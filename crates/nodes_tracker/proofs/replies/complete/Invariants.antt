use Rattle.std.proofs.Common.{◌≡◌, ◌≤◌, take}
use Rattle.std.specs.List.{count_by}
use Rattle.nodes_tracker.specs.Replies.{is_done}
use Rattle.nodes_tracker.proofs.replies.complete.Given as goal

abbrev pub invariant-loop-peer : goal.invariant-loop-peer
invariant-loop-peer l =
    (l.count ≡ count_by (λ p. is_done p.left) (take l.peer-index l.swarm)) × (l.count ≤ l.peer-index)
