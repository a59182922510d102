use Rattle.std.proofs.Common.{◌≡◌, ◌+◌, ◌++◌, length}
use Rattle.std.specs.VecDeque.{deque_len}
use Rattle.flux_doors.proofs.memory_doors.queue_of.Given as goal

-- what is left of the batch, and after it the queue
abbrev pub invariant-links : goal.invariant-links
invariant-links l = (l.batch ++ l.queue.items ≡ l.fn.batch) × (length l.batch + deque_len l.queue ≡ length l.fn.batch)

abbrev pub decreases-links : goal.decreases-links
decreases-links l = length l.batch
