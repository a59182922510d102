use Rattle.flow_core.proofs.Moved.{begun-running}
use Rattle.flow_core.proofs.fields.Fields.begin.Goals as goal

pub returns-clause-fields : goal.returns-clause-fields
returns-clause-fields g c =
    begun-running g.L.Meaning.meaning c.args.self.now c.requires.fields c.args.flow c.in_ok-begun.begun
    c.requires.idle (rw c.in_ok-begun.ensures c.in_ok-inputs.ensures.next)
