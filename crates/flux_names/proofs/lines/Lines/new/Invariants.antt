use Rattle.std.proofs.Common.{◌≡◌, [], map, replicate}
use Rattle.flux_names.specs.steps.Nodes.{lines_now}
use Rattle.flux_names.proofs.lines.Lines.new.Given as goal

abbrev pub invariant-loop-number : goal.invariant-loop-number
invariant-loop-number l =
    map (λ lines. lines_now lines.items) l.lists.items ≡ replicate l._number []
