use Rattle.std.proofs.Common.{◌≡◌, ◌++◌, take}
use Rattle.std.specs.List.{flat_map}
use Rattle.flux_swarms.specs.Printed.{printed_peer}
use Rattle.flux_swarms.proofs.printing.append_peers.Given as goal

abbrev pub invariant-loop-peer : goal.invariant-loop-peer
invariant-loop-peer l = l.out ≡ l.fn.out ++ flat_map printed_peer (take l.peer-index l.peers)
