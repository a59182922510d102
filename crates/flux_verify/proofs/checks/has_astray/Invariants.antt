use Rattle.std.proofs.Common.{◌↔◌, length}
use Rattle.flux_verify.specs.steps.Checks.{HasAstray}
use Rattle.flux_verify.proofs.checks.has_astray.Given as goal

abbrev pub invariant-loop-rest : goal.invariant-loop-rest
invariant-loop-rest l = HasAstray l.segments l.rest ↔ HasAstray l.segments l.nodes

abbrev pub decreases-loop-rest : goal.decreases-loop-rest
decreases-loop-rest l = length l.rest
