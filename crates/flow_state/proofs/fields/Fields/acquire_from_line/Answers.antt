use Rattle.std.proofs.Common.{false, refl}
use Rattle.flow_model.specs.declared.journals.Event.TheVariants as events
use Rattle.flow_state.specs.declared.places.Place.{Place}
use Rattle.flow_state.proofs.OnFields.{may-advance, may-take-it, none-blocks, take-moved, still-running, moved-makes, moved-goes_on}
use Rattle.flow_state.proofs.fields.Fields.acquire_from_line.Goals as goal

pub advance-requires : goal.advance-requires
advance-requires g c =
    rw c.in_ok-ahead.ensures
    (may-advance g.L.Meaning.meaning c.args.self.now c.requires.fields c.args.flow (events.Take c.args.key c.args.mode)
    c.requires.coming c.index_mut-place.result.now c.index_mut-place.ensures.value)

pub take-requires-clause-may : goal.take-requires-clause-may
take-requires-clause-may g c =
    may-take-it g.L.Meaning.meaning c.args.self.now c.requires.fields c.args.flow c.args.key c.args.mode
    c.requires.coming c.index_mut-place.result.now c.index_mut-place.ensures.value

pub take-requires-clause-free : goal.take-requires-clause-free
take-requires-clause-free g c =
    none-blocks g.L.Meaning.meaning c.args.self.now c.requires.fields c.args.flow c.args.key c.args.mode
    c.requires.coming c.index_mut-place.result.now c.index_mut-place.ensures.value c.requires.free

pub returns-in_err-take-clause-fields : goal.returns-in_err-take-clause-fields
returns-in_err-take-clause-fields g c =
    still-running g.L.Meaning.meaning c.args.self.now c.requires.fields c.args.flow c.args.key c.args.mode
    c.requires.coming c.index_mut-place.result.now c.index_mut-place.ensures.value
    c.take.new.self c.in_err-take.ensures.err

pub returns-clause-fields : goal.returns-clause-fields
returns-clause-fields g c =
    let r = c.args.self.now in
    let place = c.index_mut-place.result.now in
    let read = c.index_mut-place.ensures.value in
    let new : Place = record { local = c.advance.new.local; session = place.session; stands = false } in
    moved-goes_on g.L.Meaning.meaning r c.requires.fields c.args.flow (events.Take c.args.key c.args.mode)
    c.requires.coming place read new c.take.new.self c.add.new.self r.live (rw c.new.ensures at c.add.ensures)
    (take-moved g.L.Meaning.meaning r c.requires.fields c.args.flow c.args.key c.args.mode c.requires.coming place read
    new (rw c.in_ok-ahead.ensures at c.in_ok-advance.ensures.ok) refl refl
    c.requires.free c.take.new.self c.in_ok-take.ensures.ok)
    refl refl

pub returns-clause-ok : goal.returns-clause-ok
returns-clause-ok g c =
    let r = c.args.self.now in
    let place = c.index_mut-place.result.now in
    let read = c.index_mut-place.ensures.value in
    let new : Place = record { local = c.advance.new.local; session = place.session; stands = false } in
    moved-makes g.L.Meaning.meaning r c.requires.fields c.args.flow (events.Take c.args.key c.args.mode)
    c.requires.coming place read new c.take.new.self c.add.new.self r.live (rw c.new.ensures at c.add.ensures)
    (take-moved g.L.Meaning.meaning r c.requires.fields c.args.flow c.args.key c.args.mode c.requires.coming place read
    new (rw c.in_ok-ahead.ensures at c.in_ok-advance.ensures.ok) refl refl
    c.requires.free c.take.new.self c.in_ok-take.ensures.ok)
