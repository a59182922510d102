use Rattle.std.proofs.Common.{◌≡◌, ◌-◌, ◌<◌, ◌≤◌, length, take}
use Rattle.std.specs.Io.KnownBytes.{Consumes}
use Rattle.flux_doors.specs.Seen.{IsSame}
use Rattle.flux_batches.specs.Links.{HadNotEnded}
use Rattle.flux_batches.proofs.reading.fill.Given as goal

-- what the buffer has in front was read, and the text hadn't ended before the last read
abbrev pub invariant-reads : goal.invariant-reads
invariant-reads g l =
    let before = g.K.Link.seen l.fn.link in
    let now = g.K.Link.seen l.link in
    Consumes before.left now.left (take l.filled l.buffer) × (l.filled ≤ length l.buffer)
    × (now.stream.written ≡ before.stream.written) × (now.stream.faults ≡ before.stream.faults) × IsSame before now
    × (0 < l.filled → HadNotEnded l.framing before.left now.left_before)

abbrev pub decreases-reads : goal.decreases-reads
decreases-reads g l = length l.buffer - l.filled
