use Rattle.std.proofs.Common.{refl, ap, ◌∙◌}
use Rattle.std.specs.Arc.{arc_value}
use Rattle.flux_model.specs.Locks.{declared}
use Rattle.flux_cells.specs.Kept.{cells_of}
use Rattle.flux_cells.specs.Applied.{applied}
use Rattle.flow_state.specs.declared.places.Place.{Place}
use Rattle.flow_state.specs.steps.Cells.{keys_by}
use Rattle.flow_state.proofs.OnFields.{read-there}
use Rattle.flow_state.proofs.Called.{may-answer, known-next, made-running, made-adds}
use Rattle.flow_state.proofs.Fitting.{known-some}
use Rattle.flow_state.proofs.fields.Fields.answer_with_puts.Goals as goal

pub declared_of-requires : goal.declared_of-requires
declared_of-requires g c =
    rw c.deref-2.ensures
    (known-some (g.L.Meaning.meaning (arc_value c.args.self.now.setup.library))
    (arc_value c.args.self.now.setup.program) c.args.made.now.node.0
    (known-next g.L.Meaning.meaning c.args.self.now c.requires.fields c.args.flow c.args.made.now.node c.requires.coming
    c.index_mut-place.result.now
    (read-there g.L.Meaning.meaning c.args.self.now c.requires.fields c.args.flow c.index_mut-place.result.now
    c.requires.flow c.index_mut-place.ensures.value)))

pub take_answer-requires-clause-may : goal.take_answer-requires-clause-may
take_answer-requires-clause-may g c =
    may-answer g.L.Meaning.meaning c.args.self.now c.requires.fields c.args.flow c.args.made.now.node
    c.requires.coming c.index_mut-place.result.now
    (read-there g.L.Meaning.meaning c.args.self.now c.requires.fields c.args.flow c.index_mut-place.result.now
    c.requires.flow
    c.index_mut-place.ensures.value)

pub returns-clause-fields : goal.returns-clause-fields
returns-clause-fields g c =
    let r = c.args.self.now in
    let node = c.args.made.now.node in
    let place = c.index_mut-place.result.now in
    let at = read-there g.L.Meaning.meaning r c.requires.fields c.args.flow place c.requires.flow
    c.index_mut-place.ensures.value in
    let new : Place = record { local = c.take_answer.new.local; session = place.session; stands = place.stands } in
    made-running g.L.Meaning.meaning r c.requires.fields c.args.flow c.args.made.now c.requires.may
    c.requires.coming place at new c.take_answer.ensures refl refl c.apply_in.new.cells
    (c.in_ok-apply_in.ensures.ok
    ∙ (λ i. applied (c.deref.ensures i) (keys_by (c.deref.ensures i) place.session
    ((c.declared_of.ensures ∙ ap (λ p. declared p node.0) c.deref-2.ensures) i)) (cells_of r.cells)
    (let answer = c.as_answer.ensures i in answer.puts)))
    c.add_call.new.self c.add_call.ensures

pub returns-clause-ok : goal.returns-clause-ok
returns-clause-ok g c =
    let r = c.args.self.now in
    let node = c.args.made.now.node in
    let place = c.index_mut-place.result.now in
    let at = read-there g.L.Meaning.meaning r c.requires.fields c.args.flow place c.requires.flow
    c.index_mut-place.ensures.value in
    let new : Place = record { local = c.take_answer.new.local; session = place.session; stands = place.stands } in
    made-adds g.L.Meaning.meaning r c.requires.fields c.args.flow c.args.made.now c.requires.may
    c.requires.coming place at new c.take_answer.ensures refl refl c.apply_in.new.cells
    (c.in_ok-apply_in.ensures.ok
    ∙ (λ i. applied (c.deref.ensures i) (keys_by (c.deref.ensures i) place.session
    ((c.declared_of.ensures ∙ ap (λ p. declared p node.0) c.deref-2.ensures) i)) (cells_of r.cells)
    (let answer = c.as_answer.ensures i in answer.puts)))
    c.add_call.new.self c.add_call.ensures
