use Rattle.std.proofs.Common.{◌≡◌, ◌-◌, ◌<◌, ◌≤◌}
use Rattle.std.specs.VecDeque.{deque_len, deque_capacity}
use Rattle.flux_batches.proofs.GatheredLemmas.{Come}
use Rattle.flux_batches.proofs.gathering.gather.Given as goal

-- the links so far, none of which failed to come
abbrev pub invariant-links : goal.invariant-links
invariant-links g l =
    let before = g.D.Door.seen l.fn.door in
    let now = g.D.Door.seen l.door in
    Come before.to_come now.to_come l.links.items × (g.D.Door.out l.door ≡ deque_len l.links)
    × (0 < deque_len l.links) × (deque_len l.links ≤ 64) × (64 ≤ deque_capacity l.links) × (now.taken_back ≡ before.taken_back)
    × (now.faults ≡ before.faults) × (now.late ≡ before.late) × (now.open_at ≡ before.open_at)

abbrev pub decreases-links : goal.decreases-links
decreases-links g l = 64 - deque_len l.links
