use Rattle.std.proofs.Common.{◌≡◌, map}
use Rattle.nodes_tracker.proofs.Places.{kept_field}
use Rattle.nodes_tracker.proofs.peers.dictionary_of.Given as goal

abbrev pub invariant-loop-peer : goal.invariant-loop-peer
invariant-loop-peer l = l.fields.items ≡ map kept_field l.yielded
