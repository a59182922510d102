use Rattle.std.proofs.Common.{◌≡◌, min, take}
use Rattle.flux_syntax.specs.ProgramOfText.{decimal_value}
use Rattle.flux_names.proofs.codes.value_of.Given as goal

abbrev pub invariant-loop-digit : goal.invariant-loop-digit
invariant-loop-digit l =
    l.value ≡ min 257 (decimal_value (take l.digit-index l.digits))
