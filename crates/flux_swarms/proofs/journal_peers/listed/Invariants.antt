use Rattle.std.proofs.Common.{◌≡◌}
use Rattle.flux_swarms.proofs.journal_peers.listed.Given as goal

abbrev pub invariant-loop-peer : goal.invariant-loop-peer
invariant-loop-peer l = l.peers ≡ l.yielded
