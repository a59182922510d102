use Rattle.std.proofs.Common.{◌≡◌, ◌++◌, drop}
use Rattle.std.specs.List.{flat_map}
use Rattle.flux_names.specs.steps.Nodes.{lines_now, arms_in}
use Rattle.flux_names.proofs.nodes.arms.Given as goal

abbrev pub invariant-loop-line : goal.invariant-loop-line
invariant-loop-line l =
    flat_map (arms_in l.names) (lines_now l.lines) ≡ l.arms ++ flat_map (arms_in l.names) (lines_now (drop l.line-index l.lines))
