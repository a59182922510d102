use Rattle.std.proofs.Common.{◌≡◌, drop}
use Rattle.std.specs.List.{list_any}
use Rattle.flux_verify.specs.steps.Checks.{lacks_from}
use Rattle.flux_verify.proofs.checks.lacks_among.Given as goal

abbrev pub invariant-loop-place : goal.invariant-loop-place
invariant-loop-place l =
    list_any (lacks_from l.segments l.takes) (drop l.place l.nodes)
    ≡ list_any (lacks_from l.segments l.takes) l.nodes
