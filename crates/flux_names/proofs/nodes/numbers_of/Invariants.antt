use Rattle.std.proofs.Common.{◌≡◌, map, take}
use Rattle.flux_syntax.specs.ProgramOfText.{number_of}
use Rattle.flux_names.proofs.nodes.numbers_of.Given as goal

abbrev pub invariant-loop-word : goal.invariant-loop-word
invariant-loop-word l =
    l.numbers ≡ map (number_of l.names) (take l.word-index l.words)
