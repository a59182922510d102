use Rattle.flow_state.specs.States.{setup_at}
use Rattle.flow_state.specs.steps.Fields.{state_of, plans_of}
use Rattle.flow_state.proofs.OnFields.{place-of}
use Rattle.flow_state.proofs.Stopped.{stands-is}
use Rattle.flow_state.proofs.fields.Fields.stands.Goals as goal

pub returns : goal.returns
returns g c =
    let r = c.args.self.now in
    stands-is (setup_at g.L.Meaning.meaning (state_of r)) (plans_of r) r.made c.args.flow c.index.result.now
    (place-of g.L.Meaning.meaning r c.requires.fields c.args.flow c.index.result.now c.requires.flow c.index.ensures)
