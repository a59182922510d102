use Rattle.flow_state.proofs.OnFields.{key-of}
use Rattle.flow_state.proofs.fields.Fields.key.Goals as goal

pub returns : goal.returns
returns g c =
    rw (c.key_in.ensures, c.deref.ensures)
    (key-of g.L.Meaning.meaning c.args.self.now c.requires.fields c.args.flow c.index.result.now c.requires.flow
    c.index.ensures c.args.class)
