use Rattle.std.proofs.Common.{◌≡◌, ◌≤◌, ◌++◌, length, map}
use Rattle.std.specs.List.{AllByRecursion}
use Rattle.flux_names.proofs.classes.Classes.copied.Given as goal

abbrev pub invariant-loop-name : goal.invariant-loop-name
invariant-loop-name l =
    (l.classes ++ map (λ k. record { name = k.0.now; session = k.1 }) l.name-iterator ≡ l.self)
    × AllByRecursion (λ k. let name = k.0 in length name.now ≤ 65536) l.name-iterator
