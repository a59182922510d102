use Rattle.std.proofs.Common.{◌≡◌, ◌++◌, drop}
use Rattle.std.specs.List.{filter_map}
use Rattle.flux_names.specs.Rows.{code_of}
use Rattle.flux_names.proofs.nodes.codes_of.Given as goal

abbrev pub invariant-loop-word : goal.invariant-loop-word
invariant-loop-word l =
    filter_map (λ word. code_of word.text) l.words ≡ l.codes ++ filter_map (λ word. code_of word.text) (drop l.word-index l.words)
