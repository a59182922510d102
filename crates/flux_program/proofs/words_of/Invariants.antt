use Rattle.std.proofs.Common.{◌≡◌, map, take, string_bytes}
use Rattle.flux_program.proofs.words_of.Given as goal

abbrev pub invariant-loop-word : goal.invariant-loop-word
invariant-loop-word l = l.words ≡ map string_bytes (take l.word-index l.rest)
