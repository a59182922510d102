use Rattle.std.proofs.Common.{◌≡◌, ◌*◌, ◌≤◌}
use Rattle.flux_cells.specs.Kept.{cells_of}
use Rattle.flux_doors.specs.Seen.{IsLater}
use Rattle.flux_serve.specs.Ends.{sight_of}
use Rattle.flux_serve.specs.steps.Batches.{service_in}
use Rattle.flux_serve.specs.steps.Driving.{tells_by, MayDrive}
use Rattle.flux_serve.proofs.OneByOne.{SoFar}
use Rattle.flux_serve.proofs.loops.serve_batches.Given as goal

-- the batches so far were served
abbrev pub invariant-batches : goal.invariant-batches
invariant-batches g l =
    let before = g.D.Door.seen l.fn.door in
    let now = g.D.Door.seen l.door in
    let log = g.O.Sink.seen l.fn.log in
    let log' = g.O.Sink.seen l.log in
    SoFar g.D.Link.Link.seen (service_in g.L.Meaning.meaning l.served) (sight_of before log) (sight_of now log') l.count l.number (cells_of l.opening)
    × MayDrive g.F.Fn l.drive (tells_by g.D.Link.Link.seen g.D.Door.seen g.D.Door.out) l.state
    × (g.D.Door.out l.door ≡ 0) × (l.number ≤ 64 * l.count) × IsLater before now × (log.faults ≤ log'.faults)
    × (now.open_at ≡ before.open_at)
