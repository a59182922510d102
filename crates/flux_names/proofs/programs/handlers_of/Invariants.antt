use Rattle.std.proofs.Common.{◌≡◌}
use Rattle.flux_names.specs.steps.Nodes.{handler_sites_from}
use Rattle.flux_names.proofs.programs.handlers_of.Given as goal

abbrev pub invariant-loop-number : goal.invariant-loop-number
invariant-loop-number l =
    l.handlers ≡ handler_sites_from l.lines l.number
