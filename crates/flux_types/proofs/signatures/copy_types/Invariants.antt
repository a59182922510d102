use Rattle.std.proofs.Common.{◌≡◌, take}
use Rattle.flux_types.proofs.signatures.copy_types.Given as goal

abbrev pub invariant-loop-ty : goal.invariant-loop-ty
invariant-loop-ty l = l.copied ≡ take l.ty-index l.types
