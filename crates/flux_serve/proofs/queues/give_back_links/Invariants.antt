use Rattle.std.proofs.Common.{◌≡◌, ◌+◌, ◌≤◌, length}
use Rattle.flux_doors.specs.Seen.{KeepsElse}
use Rattle.flux_serve.proofs.Dealing.{GivenSo}
use Rattle.flux_serve.proofs.queues.give_back_links.Given as goal

-- the links so far were given back
abbrev pub invariant-links : goal.invariant-links
invariant-links g l =
    let before = g.D.Door.seen l.fn.door in
    let now = g.D.Door.seen l.door in
    GivenSo g.D.Link.Link.seen l.whole l.entries l.came.value.items before.taken_back now.taken_back l.queues l.flow l.left
    × (l.flow + l.left ≤ 64) × (g.D.Door.out l.door ≡ l.left) × (length l.queues ≡ length l.fn.queues) × KeepsElse before now

abbrev pub decreases-links : goal.decreases-links
decreases-links g l = l.left
