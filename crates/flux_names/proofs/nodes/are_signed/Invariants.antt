use Rattle.std.proofs.Common.{◌≡◌, drop}
use Rattle.std.specs.List.{list_any}
use Rattle.flux_names.specs.steps.Nodes.{lines_now, is_signature}
use Rattle.flux_names.proofs.nodes.are_signed.Given as goal

abbrev pub invariant-loop-line : goal.invariant-loop-line
invariant-loop-line l =
    list_any is_signature (lines_now l.lines) ≡ list_any is_signature (lines_now (drop l.line-index l.lines))
