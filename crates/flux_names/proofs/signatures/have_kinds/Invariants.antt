use Rattle.std.proofs.Common.{◌≡◌, length}
use Rattle.flux_names.specs.Rows.{have_kinds}
use Rattle.flux_names.proofs.signatures.have_kinds.Given as goal

abbrev pub invariant-loop-left : goal.invariant-loop-left
invariant-loop-left g l =
    have_kinds (g.L.Meaning.meaning l.library) l.fn.params l.fn.kinds ≡ have_kinds (g.L.Meaning.meaning l.library) l.rest l.left

abbrev pub decreases-loop-left : goal.decreases-loop-left
decreases-loop-left g l = length l.left
