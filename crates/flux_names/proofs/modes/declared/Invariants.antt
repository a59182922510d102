use Rattle.std.proofs.Common.{◌≡◌, length, drop}
use Rattle.std.specs.List.{flat_map}
use Rattle.flux_syntax.specs.ProgramOfText.{constraints_of}
use Rattle.flux_names.specs.steps.Classes.{with_constraints}
use Rattle.flux_names.specs.steps.Nodes.{lines_now, no_modes}
use Rattle.flux_names.proofs.modes.declared.Given as goal

abbrev pub invariant-loop-line : goal.invariant-loop-line
invariant-loop-line l =
    (length l.modes.items ≡ length l.classes)
    × (with_constraints (flat_map constraints_of (lines_now l.fn.lines)) l.classes (no_modes l.classes)
    ≡ with_constraints (flat_map constraints_of (lines_now (drop l.line-index l.lines))) l.classes l.modes.items)
