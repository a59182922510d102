use Rattle.std.proofs.Common.{◌≡◌, take}
use Rattle.std.specs.List.{flat_map}
use Rattle.flux_syntax.specs.Formatted.{line_of}
use Rattle.flux_syntax.proofs.formatting.format.Given as goal

abbrev pub invariant-loop-decl : goal.invariant-loop-decl
invariant-loop-decl l = l.out ≡ flat_map line_of (take l.decl-index l.decl-items)
