use Rattle.std.proofs.Common.{◌≡◌, take}
use Rattle.std.specs.List.{flat_map}
use Rattle.flux_names.specs.steps.Nodes.{predicates_in}
use Rattle.flux_names.proofs.programs.predicates_of.Given as goal

abbrev pub invariant-loop-decl : goal.invariant-loop-decl
invariant-loop-decl l =
    l.predicates ≡ flat_map predicates_in (take l.decl-index l.decls)
