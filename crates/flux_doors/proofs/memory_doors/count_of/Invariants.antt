use Rattle.std.proofs.Common.{◌≡◌, ◌+◌, drop}
use Rattle.flux_doors.specs.steps.Queues.{links_of}
use Rattle.flux_doors.proofs.memory_doors.count_of.Given as goal

-- what was counted, and what is left
abbrev pub invariant-loop-batch : goal.invariant-loop-batch
invariant-loop-batch l = l.count + links_of (drop l.batch-index l.batches) ≡ links_of l.batches
