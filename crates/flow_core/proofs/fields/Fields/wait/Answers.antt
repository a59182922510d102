use Rattle.flow_model.specs.declared.journals.Event.TheVariants.{Take}
use Rattle.flux_laws.proofs.NextEvents.{next-item}
use Rattle.flow_core.specs.States.{setup_in}
use Rattle.flow_core.specs.steps.Fields.{core_of}
use Rattle.flow_core.proofs.Moved.{stood, wait-running}
use Rattle.flow_core.proofs.fields.Fields.wait.Goals as goal

pub stands-requires : goal.stands-requires
stands-requires g c =
    next-item (setup_in g.L.Meaning.meaning (core_of c.args.self.now)) c.args.self.now.state.entries c.args.flow.0
    (Take c.args.key c.args.mode) c.requires.next

pub returns-then-stands-clause-ok : goal.returns-then-stands-clause-ok
returns-then-stands-clause-ok g c =
    stood g.L.Meaning.meaning c.args.self.now c.requires.fields c.args.flow c.args.key c.args.mode c.requires.next
    c.args.holder c.requires.blocked (rw c.if-stands.true at c.stands.ensures)

pub returns-in-Ok-clause-fields : goal.returns-in-Ok-clause-fields
returns-in-Ok-clause-fields g c =
    wait-running g.L.Meaning.meaning c.args.self.now c.requires.fields c.args.flow c.args.key c.args.mode
    c.requires.next c.args.holder c.requires.blocked c.wait.new.self c.in-Ok.ensures.ok c.write.new.journal
    (rw c.new.ensures at c.in_ok-write.ensures.ok)
