use Rattle.std.proofs.Common.{◌≡◌, ◌++◌, drop}
use Rattle.std.specs.List.{flat_map}
use Rattle.flux_names.specs.steps.Nodes.{lines_now, cases_in}
use Rattle.flux_names.proofs.nodes.body.Given as goal

abbrev pub invariant-loop-line : goal.invariant-loop-line
invariant-loop-line l =
    flat_map (cases_in l.tables.names.now l.tables.types.now) (lines_now l.lines)
    ≡ l.cases ++ flat_map (cases_in l.tables.names.now l.tables.types.now) (lines_now (drop l.line-index l.lines))
