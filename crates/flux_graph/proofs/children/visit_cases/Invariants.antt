use Rattle.std.proofs.Common.{◌≡◌, take}
use Rattle.std.specs.List.{flat_map}
use Rattle.flux_model.specs.Visits.{with_all}
use Rattle.flux_graph.proofs.children.visit_cases.Given as goal

abbrev pub invariant-loop-case : goal.invariant-loop-case
invariant-loop-case l = l.visits ≡ with_all l.fn.visits (flat_map (λ case. case.members) (take l.case-index l.cases))
