use Rattle.std.proofs.Common.{◌≡◌, true, eqb}
use Rattle.std.specs.List.{list_any}
use Rattle.flux_verify.proofs.Checking.{ok_then}
use Rattle.flux_verify.proofs.FirstFaults.{first_reached}
use Rattle.flux_verify.proofs.verifying.fault_in.Goals as goal

pub returns : goal.returns
returns c =
    let e : true ≡ list_any (eqb c.args.node) c.args.reached.now = c.if-not-has.ensures in
    ok_then _ _ c.faulty_place.result (first_reached c.args.plan.now c.args.reached.now c.requires.reached c.args.node c.args.segment.now e) c.faulty_place.ensures
