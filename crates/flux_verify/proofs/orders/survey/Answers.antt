use Rattle.flux_verify.proofs.Settling.{settled_off}
use Rattle.flux_verify.proofs.orders.survey.Goals as goal

pub returns-clause-straight : goal.returns-clause-straight
returns-clause-straight c = settled_off c.args.segments.now c.next-2.new.self.known.straight c.in_ok-next.ensures.ground.settled
