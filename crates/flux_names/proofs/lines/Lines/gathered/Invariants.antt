use Rattle.std.proofs.Common.{◌≡◌, map, take}
use Rattle.flux_names.specs.steps.Nodes.{lines_of}
use Rattle.flux_names.proofs.lines.Lines.gathered.Given as goal

abbrev pub invariant-loop-decl : goal.invariant-loop-decl
invariant-loop-decl l =
    l.lines ≡ map (lines_of (take l.decl-index l.decls)) l.names
