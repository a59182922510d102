use Rattle.std.proofs.Common.{arith, length, take, ◌-◌, ◌≡◌, ◌^◌, ◌<◌}
use Rattle.std.proofs.lemmas.List.{length-take-le}
use Rattle.flux_plan.proofs.Landings.{landing_to, landing_out, landing_stops, landing_fits}
use Rattle.flux_plan.proofs.machines.Machine.land.Goals as goal

pub loop-rest-preserved-in-To : goal.loop-rest-preserved-in-To
loop-rest-preserved-in-To g c =
    landing_to c.args.self.now.plan.now c.requires.verified _ _ _ _ _ c.top-item.result _ _ c.loop-rest.invariant c.top-item.is _ _ c.in-To.ensures

pub loop-rest-preserved : goal.loop-rest-preserved
loop-rest-preserved g c =
    let lower = take (length c.loop-rest.rest.now - 1) c.loop-rest.rest.now in
    let fewer : length lower ≡ length c.loop-rest.rest.now - 1 = length-take-le (length c.loop-rest.rest.now - 1) c.loop-rest.rest.now (omega arith) in
    landing_out c.args.self.now.plan.now c.requires.verified _ _ _ _ _ c.top-item.result _ _ c.loop-rest.invariant c.top-item.is c.next-item.result (omega (arith, fewer, c.in-len1-up-rest.len_at_least)) c.next-item.is c.in-Out.ensures

pub loop-rest-smaller : goal.loop-rest-smaller
loop-rest-smaller g c =
    let lower = take (length c.loop-rest.rest.now - 1) c.loop-rest.rest.now in
    let fewer : length lower ≡ length c.loop-rest.rest.now - 1 = length-take-le (length c.loop-rest.rest.now - 1) c.loop-rest.rest.now (omega arith) in
    let low : c.loop-rest.place < 2 ^ 32 = landing_fits c.args.self.now.plan.now c.requires.verified _ _ _ _ _ c.top-item.result _ _ c.loop-rest.invariant c.top-item.is c.requires.sized in
    omega (arith, fewer, low)

pub returns-in-Stop : goal.returns-in-Stop
returns-in-Stop g c =
    landing_stops c.args.self.now.plan.now c.requires.verified _ _ _ _ _ c.top-item.result _ _ c.loop-rest.invariant c.top-item.is _ _ c.in-Stop.ensures
