use Rattle.std.proofs.Common.{◌≡◌, take, map}
use Rattle.flux_journal.specs.steps.Phrases.{phrases_of}
use Rattle.flux_journal.proofs.phrases.lay_out.Given as goal

abbrev pub invariant-loop-node : goal.invariant-loop-node
invariant-loop-node l = l.phrases ≡ map phrases_of (take l.node-index l.nodes)
