use Rattle.std.proofs.Common.{◌≡◌, [], take, drop}
use Rattle.std.specs.List.{flat_map}
use Rattle.flux_names.specs.steps.Nodes.{sources_in, unknown_in}
use Rattle.flux_names.proofs.programs.sources_of.Given as goal

abbrev pub invariant-loop-decl : goal.invariant-loop-decl
invariant-loop-decl l =
    (l.sources ≡ flat_map (sources_in l.names l.lines) (take l.decl-index l.decls))
    × (unknown_in l.names (drop l.decl-index l.decls) ≡ [])
