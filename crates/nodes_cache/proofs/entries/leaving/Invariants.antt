use Rattle.nodes_cache.proofs.LeavingLemmas.{IsFoundSoFar}
use Rattle.nodes_cache.proofs.entries.leaving.Given as goal

abbrev pub invariant-loop-name : goal.invariant-loop-name
invariant-loop-name l = IsFoundSoFar l.cell l.names l.name-index l.least
