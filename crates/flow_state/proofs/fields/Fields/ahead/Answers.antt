use Rattle.flow_state.specs.States.{setup_at}
use Rattle.flow_state.specs.steps.Fields.{state_of}
use Rattle.flow_state.proofs.Against.{lowest-ahead}
use Rattle.flow_state.proofs.fields.Fields.ahead.Goals as goal

pub returns : goal.returns
returns g c =
    let r = c.args.self.now in
    let after = c.requires.fields.after in
    lowest-ahead (setup_at g.L.Meaning.meaning (state_of r)) r.made after.legal c.args.flow.0 c.args.key c.args.mode
    c.requires.next r.table after.table c.ahead.result c.ahead.ensures
