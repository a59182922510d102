use Rattle.std.proofs.Common.{◌≡◌, length}
use Rattle.flux_syntax.specs.Least.{soonest}
use Rattle.flux_types.specs.Rows.{unlike_inputs}
use Rattle.flux_types.specs.steps.Passing.{kind_in}
use Rattle.flux_types.proofs.flows.unlike_inputs.Given as goal

abbrev pub invariant-loop-rest : goal.invariant-loop-rest
invariant-loop-rest l =
    let predicates = kind_in l.predicates.names l.predicates.kinds in
    soonest l.fn.place (unlike_inputs predicates l.fn.patterns l.fn.inputs) ≡ soonest l.place (unlike_inputs predicates l.rest l.left)

abbrev pub decreases-loop-rest : goal.decreases-loop-rest
decreases-loop-rest l = length l.rest
