use Rattle.flow_model.specs.declared.journals.Event.TheVariants as events
use Rattle.flow_core.specs.States.{setup_in}
use Rattle.flow_core.specs.steps.Fields.{core_of}
use Rattle.flow_core.proofs.Moved.{free-beside}
use Rattle.flow_core.proofs.fields.Fields.pass.Goals as goal

pub go-requires-clause-may : goal.go-requires-clause-may
go-requires-clause-may g c = let comes = rw c.in-Enter.is at c.requires.comes in record {
  next = comes.is;
  free = free-beside (setup_in g.L.Meaning.meaning (core_of c.args.self.now)) c.args.self.now.state.entries
      c.args.flow.0 (events.Enter c.in-Enter.node) comes.is (λ key mode e. cc);
}

pub go-requires-in-Choose-clause-may : goal.go-requires-in-Choose-clause-may
go-requires-in-Choose-clause-may g c = let comes = rw c.in-Choose.is at c.requires.comes in record {
  next = comes.is;
  free = free-beside (setup_in g.L.Meaning.meaning (core_of c.args.self.now)) c.args.self.now.state.entries
      c.args.flow.0 (events.Choose c.in-Choose.number) comes.is (λ key mode e. cc);
}

pub go-requires-in-Exit-clause-may : goal.go-requires-in-Exit-clause-may
go-requires-in-Exit-clause-may g c = let comes = rw c.in-Exit.is at c.requires.comes in record {
  next = comes.is;
  free = free-beside (setup_in g.L.Meaning.meaning (core_of c.args.self.now)) c.args.self.now.state.entries
      c.args.flow.0 (events.Exit c.in-Exit.node c.in-Exit.outcome) comes.is (λ key mode e. cc);
}

pub go-requires-in-Drop-clause-may : goal.go-requires-in-Drop-clause-may
go-requires-in-Drop-clause-may g c = let comes = rw c.in-Drop.is at c.requires.comes in rw c.new.ensures (record {
  next = comes.is;
  free = free-beside (setup_in g.L.Meaning.meaning (core_of c.args.self.now)) c.args.self.now.state.entries
      c.args.flow.0 (events.Drop c.in-Drop.key) comes.is (λ key mode e. cc);
})

pub go-requires-in-End-clause-may : goal.go-requires-in-End-clause-may
go-requires-in-End-clause-may g c = let comes = rw c.in-End.is at c.requires.comes in record {
  next = comes.is;
  free = free-beside (setup_in g.L.Meaning.meaning (core_of c.args.self.now)) c.args.self.now.state.entries
      c.args.flow.0 (events.End c.in-End.outcome) comes.is (λ key mode e. cc);
}
