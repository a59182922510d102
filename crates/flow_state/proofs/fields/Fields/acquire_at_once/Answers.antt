use Rattle.std.proofs.Common.{refl}
use Rattle.flow_model.specs.declared.journals.Event.TheVariants as events
use Rattle.flow_state.specs.declared.places.Place.{Place}
use Rattle.flow_state.proofs.OnFields.{at-place, may-advance, may-take-it, none-blocks, take-moved, undone-running, moved-makes, moved-goes_on}
use Rattle.flow_state.proofs.fields.Fields.acquire_at_once.Goals as goal

pub take_on-requires-clause-may : goal.take_on-requires-clause-may
take_on-requires-clause-may g c =
    may-take-it g.L.Meaning.meaning c.args.self.now c.requires.fields c.args.flow c.args.key c.args.mode
    c.requires.coming c.index_mut-place.result.now c.index_mut-place.ensures.value

pub take_on-requires-clause-free : goal.take_on-requires-clause-free
take_on-requires-clause-free g c =
    none-blocks g.L.Meaning.meaning c.args.self.now c.requires.fields c.args.flow c.args.key c.args.mode
    c.requires.coming c.index_mut-place.result.now c.index_mut-place.ensures.value c.requires.free

pub take_on-requires-clause-comes : goal.take_on-requires-clause-comes
take_on-requires-clause-comes g c =
    may-advance g.L.Meaning.meaning c.args.self.now c.requires.fields c.args.flow (events.Take c.args.key c.args.mode)
    c.requires.coming c.index_mut-place.result.now c.index_mut-place.ensures.value

pub returns-in_err-take_on-clause-fields : goal.returns-in_err-take_on-clause-fields
returns-in_err-take_on-clause-fields g c =
    let r = c.args.self.now in
    let place = c.index_mut-place.result.now in
    let read = c.index_mut-place.ensures.value in
    let idle = c.requires.idle place (at-place g.L.Meaning.meaning r c.requires.fields c.args.flow
    (events.Take c.args.key c.args.mode) c.requires.coming place read) in
    rw c.in_err-take_on.ensures.still
    (undone-running g.L.Meaning.meaning r c.requires.fields c.args.flow c.args.key c.args.mode c.requires.coming place
    read idle
    c.take_on.new.table c.in_err-take_on.ensures.undone)

pub returns-clause-fields : goal.returns-clause-fields
returns-clause-fields g c =
    let r = c.args.self.now in
    let place = c.index_mut-place.result.now in
    let read = c.index_mut-place.ensures.value in
    let idle = c.requires.idle place (at-place g.L.Meaning.meaning r c.requires.fields c.args.flow
    (events.Take c.args.key c.args.mode) c.requires.coming place read) in
    let new : Place = record { local = c.take_on.new.local; session = place.session; stands = place.stands } in
    moved-goes_on g.L.Meaning.meaning r c.requires.fields c.args.flow (events.Take c.args.key c.args.mode)
    c.requires.coming place read new c.take_on.new.table c.add.new.self r.live (rw c.new.ensures at c.add.ensures)
    (take-moved g.L.Meaning.meaning r c.requires.fields c.args.flow c.args.key c.args.mode c.requires.coming place read
    new c.in_ok-take_on.ensures.made refl idle
    c.requires.free c.take_on.new.table c.in_ok-take_on.ensures.takes)
    refl refl

pub returns-clause-ok : goal.returns-clause-ok
returns-clause-ok g c =
    let r = c.args.self.now in
    let place = c.index_mut-place.result.now in
    let read = c.index_mut-place.ensures.value in
    let idle = c.requires.idle place (at-place g.L.Meaning.meaning r c.requires.fields c.args.flow
    (events.Take c.args.key c.args.mode) c.requires.coming place read) in
    let new : Place = record { local = c.take_on.new.local; session = place.session; stands = place.stands } in
    moved-makes g.L.Meaning.meaning r c.requires.fields c.args.flow (events.Take c.args.key c.args.mode)
    c.requires.coming place read new c.take_on.new.table c.add.new.self r.live (rw c.new.ensures at c.add.ensures)
    (take-moved g.L.Meaning.meaning r c.requires.fields c.args.flow c.args.key c.args.mode c.requires.coming place read
    new c.in_ok-take_on.ensures.made refl idle
    c.requires.free c.take_on.new.table c.in_ok-take_on.ensures.takes)
