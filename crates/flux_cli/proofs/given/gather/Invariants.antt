use Rattle.std.proofs.Common.{length}
use Rattle.flux_cli.specs.steps.Given.{files_of, listed, AreSoFar}
use Rattle.flux_cli.proofs.given.gather.Given as goal

abbrev pub invariant-parts : goal.invariant-parts
invariant-parts l = AreSoFar l.fn.words l.rest (files_of l.given.files) (listed l.given.runtime) (listed l.given.docs) (listed l.given.journal) (listed l.given.port) (listed l.given.batches)
    (listed l.given.at_once) (listed l.given.processors) (listed l.given.costs)

abbrev pub decreases-parts : goal.decreases-parts
decreases-parts l = length l.rest
