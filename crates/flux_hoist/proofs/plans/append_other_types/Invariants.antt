use Rattle.std.proofs.Common.{◌≡◌, ◌++◌, codes, take}
use Rattle.std.specs.List.{flat_map}
use Rattle.flux_hoist.proofs.plans.append_other_types.Given as goal

abbrev pub invariant-loop-ty : goal.invariant-loop-ty
invariant-loop-ty l = l.out ≡ l.fn.out ++ flat_map (λ ty. codes ", " ++ ty.words) (take l.ty-index l.types)
