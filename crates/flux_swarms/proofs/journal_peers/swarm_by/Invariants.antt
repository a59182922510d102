use Rattle.std.proofs.Common.{◌≡◌, drop}
use Rattle.flux_swarms.specs.Asked.{asks_of}
use Rattle.flux_swarms.specs.steps.Moves.{moved_on, swarm_by}
use Rattle.flux_swarms.proofs.journal_peers.swarm_by.Given as goal

abbrev pub invariant-loop-entry : goal.invariant-loop-entry
invariant-loop-entry l =
    moved_on l.swarm.items (asks_of l.program l.hash (drop l.entry-index l.entries))
    ≡ swarm_by l.program l.hash l.entries
