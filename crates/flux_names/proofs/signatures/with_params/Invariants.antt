use Rattle.std.proofs.Common.{◌≡◌, drop}
use Rattle.std.specs.List.{flat_map}
use Rattle.flux_syntax.specs.Least.{soonest}
use Rattle.flux_names.specs.Rows.{unknown_type}
use Rattle.flux_names.proofs.signatures.with_params.Given as goal

abbrev pub invariant-loop-param : goal.invariant-loop-param
invariant-loop-param g l =
    soonest l.fn.place (flat_map (unknown_type (g.L.Meaning.meaning l.library)) l.fn.params)
    ≡ soonest l.place (flat_map (unknown_type (g.L.Meaning.meaning l.library)) (drop l.param-index l.params))
