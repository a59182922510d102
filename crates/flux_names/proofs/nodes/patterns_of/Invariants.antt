use Rattle.std.proofs.Common.{◌≡◌, map, take}
use Rattle.flux_syntax.specs.ProgramOfText.{pattern_of}
use Rattle.flux_names.proofs.nodes.patterns_of.Given as goal

abbrev pub invariant-loop-pattern : goal.invariant-loop-pattern
invariant-loop-pattern l =
    l.numbers ≡ map (pattern_of l.types) (take l.pattern-index l.pattern-items)
