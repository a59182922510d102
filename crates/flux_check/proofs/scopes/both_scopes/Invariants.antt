use Rattle.std.proofs.Common.{◌≡◌, None, [], drop}
use Rattle.std.specs.List.{flat_map}
use Rattle.flux_syntax.specs.Least.{soonest}
use Rattle.flux_check.specs.Rows.{constraints_in}
use Rattle.flux_check.specs.steps.Seen.{crossed_by}
use Rattle.flux_check.proofs.scopes.both_scopes.Given as goal

abbrev pub invariant-loop-decl : goal.invariant-loop-decl
invariant-loop-decl l =
    soonest None (crossed_by [] (flat_map constraints_in l.fn.decls)) ≡ soonest l.place (crossed_by l.seen (flat_map constraints_in (drop l.decl-index l.decls)))
