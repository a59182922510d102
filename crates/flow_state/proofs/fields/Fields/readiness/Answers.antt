use Rattle.std.proofs.Common.{refl, sym}
use Rattle.flow_state.proofs.Asked.{ended-is, not-ended, not-taking}
use Rattle.flow_state.proofs.fields.Fields.readiness.Goals as goal

pub returns-in-Ended : goal.returns-in-Ended
returns-in-Ended g c = ended-is g.L.Meaning.meaning c.args.self.now c.requires.fields c.args.flow c.requires.flow _
    c.in-Ended.ensures refl

pub returns-in_default : goal.returns-in_default
returns-in_default g c = (
  sym (not-ended g.L.Meaning.meaning c.args.self.now c.requires.fields c.args.flow c.requires.flow c.next.result
      c.next.ensures c.in_default.not-Ended),
  not-taking g.L.Meaning.meaning c.args.self.now c.requires.fields c.args.flow c.requires.flow c.next.result
      c.next.ensures c.in_default.not-Take,
)
