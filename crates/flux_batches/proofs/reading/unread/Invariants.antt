use Rattle.std.proofs.Common.{◌≡◌, ◌+◌, ◌≤◌, ◌++◌}
use Rattle.std.specs.Prelude.{map}
use Rattle.std.specs.VecDeque.{deque_len, deque_capacity}
use Rattle.flux_batches.specs.steps.Reading.{to_read}
use Rattle.flux_batches.proofs.reading.unread.Given as goal

-- those that are in the list, and those that are left; there is room for all
abbrev pub invariant-links : goal.invariant-links
invariant-links g l =
    (map to_read l.fn.links.items ≡ l.request.items ++ map to_read l.links.items)
    × (deque_len l.request + deque_len l.links ≤ deque_capacity l.request) × (deque_len l.request + deque_len l.links ≡ deque_len l.fn.links)

abbrev pub decreases-links : goal.decreases-links
decreases-links g l = deque_len l.links
