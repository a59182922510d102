use Rattle.std.proofs.Common.{◌≡◌, ◌++◌, length, drop}
use Rattle.flux_names.specs.steps.Picks.{words_now}
use Rattle.flux_names.specs.steps.Nodes.{nodes_from}
use Rattle.flux_names.proofs.programs.nodes_of.Given as goal

abbrev pub invariant-loop-word : goal.invariant-loop-word
invariant-loop-word l =
    (length l.nodes ≡ l.word-index)
    × (nodes_from l.tables.names.now l.tables.types.now l.tables.classes.now l.lines 0 (words_now l.words)
    ≡ l.nodes ++ nodes_from l.tables.names.now l.tables.types.now l.tables.classes.now l.lines (length l.nodes) (words_now (drop l.word-index l.words)))
