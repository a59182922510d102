use Rattle.flow_core.specs.steps.Fields.{core_of}
use Rattle.flow_core.proofs.Comes.{comes-if_ok}
use Rattle.flow_core.proofs.Sequels.{step-on, step-leaves}
use Rattle.flow_core.proofs.cores.Core.step.Goals as goal

pub returns-clause-ok : goal.returns-clause-ok
returns-clause-ok g c = rw (← c.self.view_is) c.step.ensures.ok

pub returns-clause-each : goal.returns-clause-each
returns-clause-each g c =
    rw (← c.self.view_is)
    (comes-if_ok g.L.Meaning.meaning (core_of c.self.inside.fields) (core_of c.step.new.self) c.args.flow
    c.self.invariant.kept
    (rw (← c.self.view_is) at c.requires) c.step.result c.step.ensures.ok)

pub returns-clause-on : goal.returns-clause-on
returns-clause-on g c =
    rw (← c.self.view_is)
    (step-on g.L.Meaning.meaning (core_of c.self.inside.fields) (core_of c.step.new.self) c.args.flow c.step.result
    c.step.ensures.ok c.step.ensures.err)

pub returns-clause-others : goal.returns-clause-others
returns-clause-others g c =
    rw (← c.self.view_is)
    (step-leaves g.L.Meaning.meaning (core_of c.self.inside.fields) (core_of c.step.new.self) c.args.flow c.step.result
    c.step.ensures.ok c.step.ensures.err)

pub returns-clause-kept : goal.returns-clause-kept
returns-clause-kept g c = let fields = c.step.ensures.fields in fields.kept
