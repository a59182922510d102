use Rattle.std.proofs.Common.{◌≡◌, take}
use Rattle.flux_model.specs.Kinds.{kinds_of}
use Rattle.flux_commands.proofs.rules.outs_of.Given as goal

abbrev pub invariant-loop-ty : goal.invariant-loop-ty
invariant-loop-ty l = l.kinds ≡ kinds_of (take l.ty-index l.ty-items)
