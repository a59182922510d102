use Rattle.std.proofs.Common.{◌≡◌, drop}
use Rattle.flux_names.specs.steps.Nodes.{lines_now, session_in}
use Rattle.flux_names.proofs.nodes.session_of.Given as goal

abbrev pub invariant-loop-line : goal.invariant-loop-line
invariant-loop-line l =
    session_in (lines_now l.lines) ≡ session_in (lines_now (drop l.line-index l.lines))
