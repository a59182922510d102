use Rattle.std.proofs.Common.{◌≡◌, ◌-◌, ◌≤◌, length}
use Rattle.std.specs.Io.KnownBytes.{Consumes}
use Rattle.flux_outside.proofs.real.read_up_to.Given as goal

abbrev pub invariant-reading : goal.invariant-reading
invariant-reading g l = (length l.body ≤ l.max) × Consumes (g.F.Read.remaining l.fn.file.reader) (g.F.Read.remaining l.file.reader) l.body × (l.files.faults ≡ l.fn.files.faults) × (l.files.asked ≡ l.fn.files.asked)

abbrev pub decreases-reading : goal.decreases-reading
decreases-reading g l = l.max - length l.body
