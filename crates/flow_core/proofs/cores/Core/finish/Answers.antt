use Rattle.flow_core.specs.steps.Fields.{core_of}
use Rattle.flow_core.proofs.Moved.{begun-in, begun-within}
use Rattle.flow_core.proofs.Sequels.{finish-on, finish-leaves}
use Rattle.flow_core.proofs.cores.Core.finish.Goals as goal

pub answer-requires-clause-flow : goal.answer-requires-clause-flow
answer-requires-clause-flow g c =
    let begun = c.in_ok-has_begun.ensures.0 c.if-not-branch.false in
    begun-within g.L.Meaning.meaning c.self.inside.fields c.self.invariant c.flow-flow.result
    c.inputs-inputs.result.now
    (begun-in g.L.Meaning.meaning c.self.inside.fields c.self.invariant c.flow-flow.result c.inputs-inputs.result.now
    begun)

pub returns-clause-on : goal.returns-clause-on
returns-clause-on g c =
    rw (← c.self.view_is)
    (finish-on g.L.Meaning.meaning (core_of c.self.inside.fields) (core_of c.answer.new.self) c.flow-flow.result
    c.inputs-inputs.result.now c.shared_answer.result.now c.answer.result c.answer.ensures.ok c.answer.ensures.err)

pub returns-clause-others : goal.returns-clause-others
returns-clause-others g c =
    rw (← c.self.view_is, ← c.flow-flow.ensures)
    (finish-leaves g.L.Meaning.meaning (core_of c.self.inside.fields) (core_of c.answer.new.self) c.flow-flow.result
    c.inputs-inputs.result.now c.shared_answer.result.now c.answer.result c.answer.ensures.ok c.answer.ensures.err)
