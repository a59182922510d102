use Rattle.flow_core.specs.States.{setup_in}
use Rattle.flow_core.specs.steps.Fields.{core_of}
use Rattle.flow_core.proofs.Moved.{free-take}
use Rattle.flow_core.proofs.fields.Fields.take.Goals as goal

pub go-requires-clause-may : goal.go-requires-clause-may
go-requires-clause-may g c = rw c.new.ensures (record {
  next = c.requires.comes.is;
  free = free-take (setup_in g.L.Meaning.meaning (core_of c.args.self.now)) c.args.self.now.state.entries
      c.args.flow.0 c.args.key c.args.mode c.requires.comes.is c.in-None.ensures;
})
