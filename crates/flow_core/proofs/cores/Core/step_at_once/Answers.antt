use Rattle.flow_core.specs.steps.Fields.{core_of}
use Rattle.flow_core.proofs.Comes.{at_once-if_ok}
use Rattle.flow_core.proofs.Sequels.{at_once-on, at_once-leaves}
use Rattle.flow_core.proofs.cores.Core.step_at_once.Goals as goal

pub returns-clause-ok : goal.returns-clause-ok
returns-clause-ok g c = rw (← c.self.view_is) c.step_at_once.ensures.ok

pub returns-clause-each : goal.returns-clause-each
returns-clause-each g c =
    rw (← c.self.view_is)
    (at_once-if_ok g.L.Meaning.meaning (core_of c.self.inside.fields) (core_of c.step_at_once.new.self) c.args.flow
    c.self.invariant.kept
    (rw (← c.self.view_is) at c.requires) c.step_at_once.result c.step_at_once.ensures.ok)

pub returns-clause-on : goal.returns-clause-on
returns-clause-on g c =
    rw (← c.self.view_is)
    (at_once-on g.L.Meaning.meaning (core_of c.self.inside.fields) (core_of c.step_at_once.new.self) c.args.flow
    c.step_at_once.result c.step_at_once.ensures.ok c.step_at_once.ensures.err)

pub returns-clause-others : goal.returns-clause-others
returns-clause-others g c =
    rw (← c.self.view_is)
    (at_once-leaves g.L.Meaning.meaning (core_of c.self.inside.fields) (core_of c.step_at_once.new.self) c.args.flow
    c.step_at_once.result c.step_at_once.ensures.ok c.step_at_once.ensures.err)
