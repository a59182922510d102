use Rattle.std.proofs.Common.{List, subst}
use Rattle.flux_model.specs.declared.programs.Hold.{Hold}
use Rattle.flux_verify.specs.steps.Checks.{IsMisledAt, IsFirstPlace}
use Rattle.flux_verify.proofs.Checking.{first_of_both}
use Rattle.flux_verify.proofs.Grounding.{first_alike}
use Rattle.flux_verify.proofs.checks.faulty_place.Goals as goal

pub returns : goal.returns
returns c =
    let segments = c.args.segments.now in let segment = c.args.segment.now in let node = c.args.node in
    let misled = subst (λ (takes : List Hold). IsFirstPlace (IsMisledAt segments takes segment) c.in_ok-misled.misled) c.as_slice.ensures c.in_ok-misled.ensures in
    let own = first_alike segments node segment c.requires.stands c.in_ok-takes.takes c.in_ok-takes.ensures c.in_ok-misled.misled misled in
    rw c.earlier.ensures (first_of_both segments node segment c.in_ok-misled.misled c.in_ok-misshapen.misshapen own c.in_ok-misshapen.ensures)
