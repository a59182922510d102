use Rattle.std.proofs.Common.{◌≡◌, Some, map, take}
use Rattle.flux_model.specs.Texts.{source_name}
use Rattle.flux_commands.specs.steps.Running.{outs_at}
use Rattle.flux_commands.proofs.rules.rules_for.Given as goal

abbrev pub invariant-loop-line : goal.invariant-loop-line
invariant-loop-line l = let checked = l.checked in (l.names ≡ map (λ line. source_name checked.program (Some line)) (take l.line-index l.line-items))
    × (l.kinds ≡ map (λ line. outs_at checked.sigs.nodes line.node) (take l.line-index l.line-items))
