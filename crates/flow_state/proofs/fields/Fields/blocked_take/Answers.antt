use Rattle.flow_state.proofs.Stopped.{ended-free}
use Rattle.flow_state.proofs.fields.Fields.blocked_take.Goals as goal

pub returns-in-Blocked : goal.returns-in-Blocked
returns-in-Blocked g c = c.in-Blocked.ensures.1

pub returns-in-Ended : goal.returns-in-Ended
returns-in-Ended g c = ended-free g.L.Meaning.meaning c.args.self.now c.requires.fields c.args.flow c.requires.flow
    c.in-Ended.ensures

pub returns-in-Free : goal.returns-in-Free
returns-in-Free g c = c.in-Free.ensures.1
