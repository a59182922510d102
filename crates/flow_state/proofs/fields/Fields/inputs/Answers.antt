use Rattle.std.proofs.Common.{refl}
use Rattle.flow_state.proofs.OnFields.{read-there}
use Rattle.flow_state.proofs.Called.{call-there, known-next, begins-right, ready-of}
use Rattle.flow_state.proofs.fields.Fields.inputs.Goals as goal

pub cells_for-requires-clause-known : goal.cells_for-requires-clause-known
cells_for-requires-clause-known g c =
    let (args, call) = c.requires.at in
    let (next, there) = c.has_next.ensures in
    known-next g.L.Meaning.meaning c.args.self.now c.requires.fields c.args.flow c.args.node
    (call-there g.L.Meaning.meaning c.args.self.now c.requires.fields c.args.flow c.args.node args call next there)
    c.index-place.result.now
    (read-there g.L.Meaning.meaning c.args.self.now c.requires.fields c.args.flow c.index-place.result.now
    c.requires.flow c.index-place.ensures)

pub cells_for-requires-clause-reads : goal.cells_for-requires-clause-reads
cells_for-requires-clause-reads g c = c.requires.fields.reads_

pub returns-clause-next : goal.returns-clause-next
returns-clause-next g c =
    let (args, call) = c.requires.at in
    let (next, there) = c.has_next.ensures in
    begins-right g.L.Meaning.meaning c.args.self.now c.requires.fields c.args.flow c.args.node
    (call-there g.L.Meaning.meaning c.args.self.now c.requires.fields c.args.flow c.args.node args call next there)
    c.index-place.result.now
    (read-there g.L.Meaning.meaning c.args.self.now c.requires.fields c.args.flow c.index-place.result.now
    c.requires.flow c.index-place.ensures)
    (record { node = c.args.node; args = c.in_ok-share_args.field-0; cells = c.in_ok-cells_for.field-0 })
    refl c.in_ok-share_args.ensures c.in_ok-cells_for.ensures

pub returns-clause-ready : goal.returns-clause-ready
returns-clause-ready g c =
    ready-of g.L.Meaning.meaning c.args.self.now c.requires.fields c.args.flow
    (record { node = c.args.node; args = c.in_ok-share_args.field-0; cells = c.in_ok-cells_for.field-0 })
    (returns-clause-next g c)
