use Rattle.std.proofs.Common.{◌≡◌, ◌++◌, drop, map}
use Rattle.std.specs.List.{concat}
use Rattle.nodes_tracker.proofs.replies.joined.Given as goal

abbrev pub invariant-loop-peer : goal.invariant-loop-peer
invariant-loop-peer l =
    l.joined ++ concat (map (λ p. p.address) (drop l.peer-index l.peer-items)) ≡ concat
    (map (λ p. p.address) l.peer-items)
