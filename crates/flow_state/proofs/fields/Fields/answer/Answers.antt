use Rattle.flow_state.proofs.Called.{call-there}
use Rattle.flow_state.proofs.fields.Fields.answer.Goals as goal

pub answer_alone-requires-clause-coming : goal.answer_alone-requires-clause-coming
answer_alone-requires-clause-coming g c =
    let made = c.args.made.now in
    let (next, there) = c.has_next.ensures in
    call-there g.L.Meaning.meaning c.args.self.now c.requires.fields c.args.flow made.node made.args
    c.requires.may.next next there

pub answer_with_puts-requires-clause-coming : goal.answer_with_puts-requires-clause-coming
answer_with_puts-requires-clause-coming g c =
    let made = c.args.made.now in
    let (next, there) = c.has_next.ensures in
    call-there g.L.Meaning.meaning c.args.self.now c.requires.fields c.args.flow made.node made.args
    c.requires.may.next next there
