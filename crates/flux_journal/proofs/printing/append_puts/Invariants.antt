use Rattle.std.proofs.Common.{◌≡◌, ◌++◌, take}
use Rattle.std.specs.List.{flat_map}
use Rattle.flow_model.specs.Texts.{printed_put}
use Rattle.flux_journal.proofs.printing.append_puts.Given as goal

abbrev pub invariant-loop-put : goal.invariant-loop-put
invariant-loop-put l = l.out ≡ l.fn.out ++ flat_map printed_put (take l.put-index l.puts)
