use Rattle.std.proofs.Common.{◌≡◌, take}
use Rattle.flux_journal.specs.steps.Named.{names_in}
use Rattle.flux_journal.proofs.names.add_names.Given as goal

abbrev pub invariant-loop-node : goal.invariant-loop-node
invariant-loop-node l = l.names ≡ take l.node-index (names_in l.nodes)
