use Rattle.std.proofs.Common.{◌≡◌, None, [], drop}
use Rattle.std.specs.List.{flat_map}
use Rattle.flux_syntax.specs.Least.{soonest}
use Rattle.flux_names.specs.Rows.{codes_in}
use Rattle.flux_names.specs.steps.Codes.{bad_codes_by}
use Rattle.flux_names.proofs.codes.bad_code.Given as goal

abbrev pub invariant-loop-decl : goal.invariant-loop-decl
invariant-loop-decl l =
    soonest None (bad_codes_by [] (flat_map codes_in l.fn.decls)) ≡ soonest l.place (bad_codes_by l.codes (flat_map codes_in (drop l.decl-index l.decls)))
