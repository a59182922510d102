use Rattle.flow_model.specs.declared.journals.Event.TheVariants.{Take}
use Rattle.flux_laws.proofs.NextEvents.{next-item}
use Rattle.flow_state.specs.States.{setup_at}
use Rattle.flow_state.specs.steps.Fields.{state_of}
use Rattle.flow_state.proofs.Tables.{may-take, lowest-blocks}
use Rattle.flow_state.proofs.fields.Fields.blocker.Goals as goal

pub holder-requires : goal.holder-requires
holder-requires g c =
    let r = c.args.self.now in
    let after = c.requires.fields.after in
    let setup = setup_at g.L.Meaning.meaning (state_of r) in
    may-take setup r.made after.legal r.table after.table c.args.flow.0 c.args.key c.args.mode
    (next-item setup r.made c.args.flow.0 (Take c.args.key c.args.mode) c.requires.next) c.requires.next

pub returns : goal.returns
returns g c =
    let r = c.args.self.now in
    let after = c.requires.fields.after in
    lowest-blocks (setup_at g.L.Meaning.meaning (state_of r)) r.made after.legal r.table after.table c.args.flow.0
    c.args.key c.args.mode c.requires.next c.holder.result c.holder.ensures
