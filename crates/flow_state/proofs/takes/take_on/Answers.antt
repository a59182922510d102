use Rattle.flow_state.proofs.Tables.{taken-some}
use Rattle.flow_state.proofs.takes.take_on.Goals as goal

pub release-requires : goal.release-requires
release-requires g c = taken-some c.args.table.now c.take.new.self c.args.flow.0 c.args.key c.args.mode
    c.in_ok-take.ensures.ok
