use Rattle.std.proofs.Common.{◌≡◌, take}
use Rattle.flux_model.specs.Visits.{with_all}
use Rattle.flux_model.proofs.visits.Visits.add_all.Given as goal

abbrev pub invariant-loop-node : goal.invariant-loop-node
invariant-loop-node l = l.self ≡ with_all l.fn.self (take l.node-index l.nodes)
