use Rattle.std.proofs.Common.{◌≡◌, ◌+◌, length}
use Rattle.flux_plan.specs.steps.Turns.{fitting}
use Rattle.flux_plan.specs.Machine.{first_arm}
use Rattle.flux_plan.proofs.machines.Machine.first_arm.Given as goal

abbrev pub invariant-loop-rest : goal.invariant-loop-rest
invariant-loop-rest g l =
    let meaning = g.L.Meaning.meaning l.self.library.now in
    let fits = fitting meaning l.self.program.now.predicates l.values in
    (l.passed + length l.rest ≡ length l.arms)
    × (first_arm fits (l.passed + 1) l.rest ≡ first_arm fits 1 l.arms)

abbrev pub decreases-loop-rest : goal.decreases-loop-rest
decreases-loop-rest g l = length l.rest
