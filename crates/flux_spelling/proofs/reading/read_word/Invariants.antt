use Rattle.std.proofs.Common.{◌≡◌, ◌≤◌, ◌-◌, length, take}
use Rattle.flux_spelling.proofs.reading.read_word.Given as goal

-- the bytes so far are the word's
abbrev pub invariant-loop-at : goal.invariant-loop-at
invariant-loop-at l = record {
  within : l.at ≤ length l.bytes;
  in_word : l.at ≤ length l.word;
  same : take l.at l.bytes ≡ take l.at l.word;
}

abbrev pub decreases-loop-at : goal.decreases-loop-at
decreases-loop-at l = length l.word - l.at
