use Rattle.flow_core.proofs.Moved.{go-running}
use Rattle.flow_core.proofs.fields.Fields.go.Goals as goal

pub returns-in-Ok-clause-fields : goal.returns-in-Ok-clause-fields
returns-in-Ok-clause-fields g c =
    go-running g.L.Meaning.meaning c.args.self.now c.requires.fields c.args.flow c.args.event c.requires.may
    c.make.new.self c.in-Ok.ensures.ok c.write.new.journal c.in_ok-write.ensures.ok
