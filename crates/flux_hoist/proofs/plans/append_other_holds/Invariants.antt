use Rattle.std.proofs.Common.{◌≡◌, ◌++◌, codes, take}
use Rattle.std.specs.List.{flat_map}
use Rattle.flux_hoist.specs.Printed.{printed_hold}
use Rattle.flux_hoist.proofs.plans.append_other_holds.Given as goal

abbrev pub invariant-loop-hold : goal.invariant-loop-hold
invariant-loop-hold l = l.out ≡ l.fn.out ++ flat_map (λ hold. codes " " ++ printed_hold l.p hold) (take l.hold-index l.holds)
