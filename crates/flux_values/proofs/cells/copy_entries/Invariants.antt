use Rattle.std.proofs.Common.{◌≡◌, take}
use Rattle.flux_values.proofs.cells.copy_entries.Given as goal

abbrev pub invariant-loop-name : goal.invariant-loop-name
invariant-loop-name l = l.copied.items ≡ take l.name-index l.entries
