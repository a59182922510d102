use Rattle.std.proofs.Common.{◌≡◌, ◌++◌, take}
use Rattle.std.specs.List.{flat_map}
use Rattle.flux_journal.specs.Logs.{logged_entry}
use Rattle.flux_journal.proofs.printing.append_log.Given as goal

abbrev pub invariant-loop-entry : goal.invariant-loop-entry
invariant-loop-entry l = l.out ≡ l.fn.out ++ flat_map (logged_entry l.program) (take l.entry-index l.entries)
