use Rattle.std.proofs.Common.{◌≡◌, ◌++◌, take}
use Rattle.std.specs.List.{flat_map}
use Rattle.flow_model.specs.Texts.{printed_entry}
use Rattle.flux_journal.proofs.printing.append_entries.Given as goal

abbrev pub invariant-loop-entry : goal.invariant-loop-entry
invariant-loop-entry l = l.out ≡ l.fn.out ++ flat_map (printed_entry l.phrases) (take l.entry-index l.entries)
