use Rattle.std.proofs.Common.{◌≡◌, ◌++◌, drop}
use Rattle.std.specs.List.{flat_map}
use Rattle.flux_names.specs.steps.Nodes.{lines_now, handler_sites_in}
use Rattle.flux_names.proofs.programs.add_handlers.Given as goal

abbrev pub invariant-loop-line : goal.invariant-loop-line
invariant-loop-line l =
    l.fn.handlers ++ flat_map handler_sites_in (lines_now l.lines) ≡ l.handlers ++ flat_map handler_sites_in (lines_now (drop l.line-index l.lines))
