use Rattle.std.proofs.Common.{List, length}
use Rattle.flux_model.specs.declared.items.FlowNo.{FlowNo}
use Rattle.flux_cli.specs.steps.Found.{AreSoFar}
use Rattle.flux_cli.proofs.values.are_numbers.Given as goal

abbrev pub invariant-numbers : goal.invariant-numbers
invariant-numbers l = (numbers : List FlowNo) × AreSoFar l.list (length l.yielded) numbers
