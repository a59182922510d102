use Rattle.std.proofs.Common.{◌≡◌, ◌≤◌, length, take}
use Rattle.flux_journal.proofs.paging.let_go.Given as goal

abbrev pub invariant-entries : goal.invariant-entries
invariant-entries l = (l.from ≤ length l.entries) × (take l.from l.entries ≡ take l.from l.fn.entries)

abbrev pub decreases-entries : goal.decreases-entries
decreases-entries l = length l.entries
