use Rattle.std.proofs.Common.{refl}
use Rattle.std.specs.FinMap as fin
use Rattle.std.specs.Ordering.{nat_cmp}
use Rattle.std.specs.Cmp.Lexicographic.{slice_cmp}
use Rattle.flux_runs.proofs.summaries.number_at.Goals as goal

pub returns-in_default : goal.returns-in_default
returns-in_default c = rw c.in_default.ensures (rw (fin.get-empty (slice_cmp nat_cmp) c.args.name.now) refl)
