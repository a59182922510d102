use Rattle.std.proofs.Common.{◌≡◌}
use Rattle.std.specs.VecDeque.{deque_len}
use Rattle.flux_doors.specs.Seen.{KeepsElse}
use Rattle.flux_batches.proofs.Giving.{Given}
use Rattle.flux_batches.proofs.gathering.give_back.Given as goal

abbrev pub invariant-links : goal.invariant-links
invariant-links g l =
    Given (g.D.Door.seen l.fn.door).taken_back (g.D.Door.seen l.door).taken_back l.fn.links.items l.links.items
    × (g.D.Door.out l.door ≡ deque_len l.links) × KeepsElse (g.D.Door.seen l.fn.door) (g.D.Door.seen l.door)

abbrev pub decreases-links : goal.decreases-links
decreases-links g l = deque_len l.links
