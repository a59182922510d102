use Rattle.std.proofs.Common.{◌≡◌, ◌∷◌, ◌++◌, take}
use Rattle.std.specs.List.{flat_map}
use Rattle.flux_values.specs.Texts.{printed_byte}
use Rattle.flux_spelling.proofs.printing.append_text.Given as goal

-- the opening quote and the spelling of each byte so far come after what was there
abbrev pub invariant-loop-byte : goal.invariant-loop-byte
invariant-loop-byte l = l.out ≡ l.fn.out ++ 34 ∷ flat_map printed_byte (take l.byte-index l.bytes)
