use Rattle.std.proofs.Common.{◌≡◌, ◌+◌, ◌≤◌, length}
use Rattle.std.specs.VecDeque.{deque_len}
use Rattle.flux_serve.proofs.Dealing.{DealtSo}
use Rattle.flux_serve.proofs.queues.deal.Given as goal

-- each queue has its share of the links so far
abbrev pub invariant-links : goal.invariant-links
invariant-links g l =
    DealtSo l.queues l.fn.links.items l.links.items l.flow (deque_len l.links) × (l.flow + deque_len l.links ≤ 64)
    × (length l.queues ≡ length l.fn.queues)

abbrev pub decreases-links : goal.decreases-links
decreases-links g l = deque_len l.links
