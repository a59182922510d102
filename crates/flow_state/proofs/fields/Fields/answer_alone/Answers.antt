use Rattle.std.proofs.Common.{List, ap, sym, refl}
use Rattle.std.specs.Arc.{arc_value}
use Rattle.flux_values.specs.declared.answers.Put.{Put}
use Rattle.flux_model.specs.Locks.{declared}
use Rattle.flux_cells.specs.Kept.{cells_of}
use Rattle.flux_cells.specs.Applied.{applied}
use Rattle.flow_state.specs.declared.places.Place.{Place}
use Rattle.flow_state.specs.steps.Cells.{keys_by}
use Rattle.flow_state.proofs.OnFields.{read-there}
use Rattle.flow_state.proofs.Called.{may-answer, made-running, made-adds}
use Rattle.flow_state.proofs.fields.Fields.answer_alone.Goals as goal

pub take_answer-requires-clause-may : goal.take_answer-requires-clause-may
take_answer-requires-clause-may g c =
    may-answer g.L.Meaning.meaning c.args.self.now c.requires.fields c.args.flow c.args.made.now.node
    c.requires.coming c.index_mut-place.result.now
    (read-there g.L.Meaning.meaning c.args.self.now c.requires.fields c.args.flow c.index_mut-place.result.now
    c.requires.flow
    c.index_mut-place.ensures.value)

pub returns-clause-fields : goal.returns-clause-fields
returns-clause-fields g c =
    let r = c.args.self.now in
    let setup = r.setup in
    let place = c.index_mut-place.result.now in
    let at = read-there g.L.Meaning.meaning r c.requires.fields c.args.flow place c.requires.flow
    c.index_mut-place.ensures.value in
    let new : Place = record { local = c.take_answer.new.local; session = place.session; stands = place.stands } in
    let keys = keys_by (arc_value setup.program) place.session
    (declared (arc_value setup.program) c.args.made.now.node.0) in
    made-running g.L.Meaning.meaning r c.requires.fields c.args.flow c.args.made.now c.requires.may
    c.requires.coming place at new c.take_answer.ensures refl refl r.cells
    (sym (ap (λ (puts : List Put). applied (arc_value setup.program) keys (cells_of r.cells) puts) c.requires.alone))
    c.add_call.new.self c.add_call.ensures

pub returns-clause-ok : goal.returns-clause-ok
returns-clause-ok g c =
    let r = c.args.self.now in
    let setup = r.setup in
    let place = c.index_mut-place.result.now in
    let at = read-there g.L.Meaning.meaning r c.requires.fields c.args.flow place c.requires.flow
    c.index_mut-place.ensures.value in
    let new : Place = record { local = c.take_answer.new.local; session = place.session; stands = place.stands } in
    let keys = keys_by (arc_value setup.program) place.session
    (declared (arc_value setup.program) c.args.made.now.node.0) in
    made-adds g.L.Meaning.meaning r c.requires.fields c.args.flow c.args.made.now c.requires.may
    c.requires.coming place at new c.take_answer.ensures refl refl r.cells
    (sym (ap (λ (puts : List Put). applied (arc_value setup.program) keys (cells_of r.cells) puts) c.requires.alone))
    c.add_call.new.self c.add_call.ensures
