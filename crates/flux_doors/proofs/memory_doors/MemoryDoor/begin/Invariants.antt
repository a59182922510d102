use Rattle.std.proofs.Common.{◌≡◌}
use Rattle.std.specs.VecDeque.{deque_len}
use Rattle.flux_doors.specs.Doors.{waiting}
use Rattle.flux_doors.specs.Memory.{door_links}
use Rattle.flux_doors.proofs.memory_doors.MemoryDoor.begin.Given as goal

-- the same links are waited for, and all else is as it was
abbrev pub invariant-batches : goal.invariant-batches
invariant-batches l = (waiting (door_links l.self) ≡ waiting (door_links l.fn.self)) × (l.self.back ≡ l.fn.self.back) × (l.self.out ≡ l.fn.self.out)
    × (l.self.calls ≡ l.fn.self.calls) × (l.self.faults ≡ l.fn.self.faults) × (l.self.late ≡ l.fn.self.late) × (l.self.port ≡ l.fn.self.port)

abbrev pub decreases-batches : goal.decreases-batches
decreases-batches l = deque_len l.self.later
