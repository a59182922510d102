use Rattle.std.proofs.Common.{◌≡◌, ◌++◌, take, codes}
use Rattle.std.specs.List.{flat_map}
use Rattle.flux_values.specs.Texts.{printed_value}
use Rattle.flux_journal.proofs.printing.append_before.Given as goal

abbrev pub invariant-loop-value : goal.invariant-loop-value
invariant-loop-value l = l.out ≡ l.fn.out ++ flat_map (λ value. printed_value value ++ codes ", ") (take l.value-index l.values)
