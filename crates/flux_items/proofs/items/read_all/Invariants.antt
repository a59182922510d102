use Rattle.std.proofs.Common.{◌≡◌, length}
use Rattle.flux_items.specs.Lines.{lines_of}
use Rattle.flux_items.specs.steps.Reading.{AreItemsSoFar}
use Rattle.flux_items.proofs.items.read_all.Given as goal

abbrev pub invariant-lines : goal.invariant-lines
invariant-lines l = (l.number ≡ length l.yielded) × AreItemsSoFar l.rules (lines_of l.bytes) (length l.yielded) l.items l.size
