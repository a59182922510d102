use Rattle.std.proofs.Common.{◌≡◌, ◌+◌, ◌++◌, map, length}
use Rattle.std.specs.VecDeque.{deque_items}
use Rattle.flux_doors.specs.steps.Queues.{queued_in, links_of}
use Rattle.flux_doors.proofs.memory_doors.MemoryDoor.new.Given as goal

-- the batches that are left, and after them those that are queued
abbrev pub invariant-batches : goal.invariant-batches
invariant-batches l = (l.batches ++ map deque_items l.later.items ≡ l.fn.batches) × (links_of l.batches + queued_in l.later.items ≡ links_of l.fn.batches)

abbrev pub decreases-batches : goal.decreases-batches
decreases-batches l = length l.batches
