use Rattle.std.proofs.Common.{◌≡◌, length}
use Rattle.flow_model.specs.Matching.{all_match}
use Rattle.flux_plan.proofs.machines.Machine.all_match.Given as goal

abbrev pub invariant-loop-left : goal.invariant-loop-left
invariant-loop-left g l =
    let meaning = g.L.Meaning.meaning l.self.library.now in
    let names = l.self.program.now.predicates in
    all_match meaning names l.left l.rest ≡ all_match meaning names l.patterns l.values

abbrev pub decreases-loop-left : goal.decreases-loop-left
decreases-loop-left g l = length l.left
