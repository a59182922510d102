use Rattle.std.proofs.Common.{◌≤◌, ◌<◌, ◌-◌, All, length, take, vec_len}
use Rattle.flux_values.specs.Spellings.{OpensText}
use Rattle.flux_spelling.proofs.reading.read_literal.Given as goal

-- the bytes so far are an opening quote and pieces that give the text
abbrev pub invariant-loop-at : goal.invariant-loop-at
invariant-loop-at l = record {
  within : l.at ≤ length l.bytes;
  opens : OpensText (take l.at l.bytes) l.text.items;
  each : All (λ b. b < 256) l.text.items;
  room : vec_len l.text ≤ l.limit;
}

abbrev pub decreases-loop-at : goal.decreases-loop-at
decreases-loop-at l = length l.bytes - l.at
