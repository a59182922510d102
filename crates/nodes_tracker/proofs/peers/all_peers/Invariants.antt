use Rattle.std.proofs.Common.{◌≡◌, length, drop}
use Rattle.bencoding.specs.steps.Printed.{fields_view}
use Rattle.nodes_tracker.specs.steps.Fields.{tree_peers}
use Rattle.nodes_tracker.proofs.Trees.{behind_peers}
use Rattle.nodes_tracker.proofs.peers.all_peers.Given as goal

abbrev pub invariant-loop-field : goal.invariant-loop-field
invariant-loop-field l =
    behind_peers l.peers.items (tree_peers (fields_view (drop (length l.yielded) l.fn.fields.items))) ≡ tree_peers
    (fields_view l.fn.fields.items)
