use Rattle.std.proofs.Common.{◌+◌, ◌-◌, ◌*◌, ◌^◌, length}
use Rattle.flow_model.specs.Matching.{patterns_match}
use Rattle.flux_plan.specs.steps.Turns.{cursor, IsLanding}
use Rattle.flux_plan.proofs.machines.Machine.land.Given as goal

abbrev pub invariant-loop-rest : goal.invariant-loop-rest
invariant-loop-rest g l =
    let matches = patterns_match (g.L.Meaning.meaning l.self.library.now) l.self.program.now.predicates in
    IsLanding l.self.plan.now matches l.frames (cursor l.frames l.fn.place l.values l.fn.outcome) l.values l.rest l.place l.outcome

abbrev pub decreases-loop-rest : goal.decreases-loop-rest
decreases-loop-rest g l = length l.rest * 2 ^ 32 + (2 ^ 32 - l.place)
