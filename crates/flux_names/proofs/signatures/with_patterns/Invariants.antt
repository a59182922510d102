use Rattle.std.proofs.Common.{◌≡◌, drop}
use Rattle.std.specs.List.{filter_map}
use Rattle.flux_syntax.specs.Least.{soonest}
use Rattle.flux_names.specs.Rows.{not_among}
use Rattle.flux_names.proofs.signatures.with_patterns.Given as goal

abbrev pub invariant-loop-pattern : goal.invariant-loop-pattern
invariant-loop-pattern l =
    soonest l.initial.place (not_among l.types (filter_map (λ p. p) l.pattern-items))
    ≡ soonest l.place (not_among l.types (filter_map (λ p. p) (drop l.pattern-index l.pattern-items)))
